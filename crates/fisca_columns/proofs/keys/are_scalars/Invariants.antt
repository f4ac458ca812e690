use Rattle.std.proofs.Common.{◌≡◌, drop}
use Rattle.fisca_yaml.specs.Views.{items_view}
use Rattle.fisca_columns.specs.Steps.Calc.{are_scalars}
use Rattle.fisca_columns.proofs.keys.are_scalars.Given as goal

abbrev pub invariant-loop-item : goal.invariant-loop-item
invariant-loop-item l = are_scalars (items_view l.items) ≡ are_scalars (items_view (drop l.item-index l.items))
