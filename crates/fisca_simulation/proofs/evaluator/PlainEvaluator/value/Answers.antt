use Rattle.std.proofs.Common.{sym, subst}
use Rattle.fisca_key_semantics.proofs.Below.{answer_alone}
use Rattle.fisca_model.specs.Seen.{key_seen}
use Rattle.fisca_simulation.specs.Simulations.{normal_key, sources}
use Rattle.fisca_simulation.specs.Evaluators.{simulation_of}
use Rattle.fisca_model.specs.EvalFaults.{IsAnswer}
use Rattle.fisca_simulation.proofs.evaluator.PlainEvaluator.value.Goals as goal

pub returns-clause-answer : goal.returns-clause-answer
returns-clause-answer c =
    let m = simulation_of c.args.self.now in
    let h = rw (c.clear-2.ensures.items, c.evaluation_of-evaluation.ensures.seen, c.own_key-own.ensures) at c.value_below.ensures.answer in
    subst (λ w. IsAnswer w c.value_below.result) (sym (answer_alone (sources m) (normal_key m.rules (key_seen c.args.key)))) h
