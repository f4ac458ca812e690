use Rattle.std.proofs.Common.{Ok, None, ◌∙◌, ap}
use Rattle.fisca_check_calls.specs.Arguments.{all_settled, positions as positions_view}
use Rattle.fisca_ir.specs.Views.{thing}
use Rattle.fisca_num.specs.Results.{and_then}
use Rattle.fisca_typing.specs.Asks.{total_by, total_of}
use Rattle.fisca_check.proofs.Outcomes.{gives_same}
use Rattle.fisca_check.proofs.Shapes.{total_alone}
use Rattle.fisca_check.proofs.groups.total_by.Goals as goal

pub returns-in_ok-values-in-ByPosition : goal.returns-in_ok-values-in-ByPosition
returns-in_ok-values-in-ByPosition c =
    let e = c.args.entity in
    let t = c.args.total in
    gives_same thing _ _ _ c.total_of.ensures
    (ap (λ p. total_by e t (positions_view p)) c.in-ByPosition.is
    ∙ total_alone e t (all_settled c.in-ByPosition.arguments.items)
    ∙ ap (λ s. and_then s (λ m. total_of t m.thing (Ok None))) c.in_ok-values-in-ByPosition.ensures)
