use Rattle.std.proofs.Common.{◌≡◌, [], drop}
use Rattle.fisca_situations.specs.Steps.Views.{situation}
use Rattle.fisca_yaml.specs.Views.{items_view}
use Rattle.fisca_rows.specs.Steps.Conditions.{with_conditions}
use Rattle.fisca_rows.proofs.conditions.listed_conditions.Given as goal

abbrev pub invariant-loop-item : goal.invariant-loop-item
invariant-loop-item l =
    let members = (situation l.situation).members in
    with_conditions l.tables members l.default [] (items_view l.items) ≡ with_conditions l.tables members l.default l.found.items (items_view (drop l.item-index l.items))
