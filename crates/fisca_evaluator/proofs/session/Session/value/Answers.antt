use Rattle.std.proofs.Common.{[], sym, subst, ◌∙◌}
use Rattle.std.proofs.lemmas.Result.{err_from_is_err_and}
use Rattle.fisca_key_semantics.proofs.Below.{answer_alone}
use Rattle.fisca_memo_theory.proofs.Settled.{known_answer}
use Rattle.fisca_model.specs.Seen.{key_seen, value_seen}
use Rattle.fisca_model.specs.EvalFaults.{IsTold, told}
use Rattle.fisca_simulation.specs.Simulations.{normal_key, sources}
use Rattle.fisca_simulation.specs.Views.{simulation}
use Rattle.fisca_evaluator.proofs.Outcomes.{unless_memory}
use Rattle.fisca_evaluator.proofs.session.Session.value.Goals as goal

pub returns-in_err-known-clause-answer : goal.returns-in_err-known-clause-answer
returns-in_err-known-clause-answer g c =
    let m = simulation c.args.simulation.now in
    let k = normal_key m.rules (key_seen c.args.key) in
    let p = err_from_is_err_and c.from_residual.result c.from_residual.ensures.1 in
    let h = rw (c.clear-2.ensures.items, c.evaluation_of-evaluation.ensures.seen, c.own_key-own.ensures) at c.in_err-known.ensures.fault in
    rw (p.1, p.2) (subst (IsTold (told c.in_err-known.field-0.0)) (sym (answer_alone (sources m) k)) h)

pub returns-in_err-known-clause-work : goal.returns-in_err-known-clause-work
returns-in_err-known-clause-work g c =
    let p = err_from_is_err_and c.from_residual.result c.from_residual.ensures.1 in
    let h = rw (c.clear-2.ensures.items, c.evaluation_of-evaluation.ensures.seen, c.own_key-own.ensures) at c.in_err-known.ensures.stopped in
    rw (p.1, p.2) (λ away. unless_memory c.in_err-known.field-0.0 _ h away)

pub returns-clause-answer : goal.returns-clause-answer
returns-clause-answer g c =
    let m = simulation c.args.simulation.now in
    let k = normal_key m.rules (key_seen c.args.key) in
    let h = rw (c.clear-2.ensures.items, c.evaluation_of-evaluation.ensures.seen, c.own_key-own.ensures) at c.in_ok-known.ensures.known in
    answer_alone (sources m) k ∙ known_answer (sources m) [] k (value_seen c.in_ok-known.known.value) c.in_ok-known.known.height h
