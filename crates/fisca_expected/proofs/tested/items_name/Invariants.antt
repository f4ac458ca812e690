use Rattle.std.proofs.Common.{◌≡◌, drop}
use Rattle.fisca_yaml.specs.Views.{items_view}
use Rattle.fisca_expected.specs.Steps.Tested.{items_name}
use Rattle.fisca_expected.proofs.tested.items_name.Given as goal

-- whether one is named is settled by those that are left
abbrev pub invariant-loop-item : goal.invariant-loop-item
invariant-loop-item l = items_name l.tables l.variable (items_view l.items) ≡ items_name l.tables l.variable (items_view (drop l.item-index l.items))
