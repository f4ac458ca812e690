use Rattle.std.proofs.Common.{◌≡◌, drop}
use Rattle.fisca_situations.specs.Steps.Views.{situation}
use Rattle.fisca_yaml.specs.Views.{items_view}
use Rattle.fisca_columns.specs.Steps.Calc.{with_columns}
use Rattle.fisca_columns.proofs.columns.with_columns.Given as goal

abbrev pub invariant-loop-item : goal.invariant-loop-item
invariant-loop-item l =
    let members = (situation l.situation).members in
    with_columns l.tables members l.default l.fn.columns (items_view l.items) ≡ with_columns l.tables members l.default l.found (items_view (drop l.item-index l.items))
