use Rattle.std.proofs.Common.{sym}
use Rattle.std.proofs.lemmas.Option.{IfSome_then}
use Rattle.fisca_check.specs.Formulas.{formula_view}
use Rattle.fisca_model.specs.Seen.{key_seen}
use Rattle.fisca_rules.specs.Views.{rule_set}
use Rattle.fisca_evaluator.proofs.Planning.{plan_found, plan_says}
use Rattle.fisca_evaluator.proofs.plans.plan_for.Goals as goal

pub returns-in-Ok : goal.returns-in-Ok
returns-in-Ok c =
    let r = c.args.simulation.rules.now in
    let k = key_seen c.args.key.now in
    let v = c.in_ok-variable.variable.now in
    let f = c.in_ok-formula.formula.now in
    IfSome_then c.in-Ok.plan c.in-Ok.ensures.plays
    (λ p says. plan_found (rule_set r) c.args.simulation.neutral.now k p v (formula_view f) (sym c.in_ok-variable.ensures) (sym c.in_ok-formula.ensures) (plan_says r v f k p says))
