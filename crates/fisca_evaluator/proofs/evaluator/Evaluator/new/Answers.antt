use Rattle.std.proofs.Common.{sym, subst}
use Rattle.fisca_situations.specs.Steps.Views.{situation}
use Rattle.fisca_rules.specs.Views.{rule_set}
use Rattle.fisca_simulation.specs.Simulations.{sources}
use Rattle.fisca_evaluator.proofs.Memories.{empty_memory}
use Rattle.fisca_evaluator.specs.Recalled.{IsMemory, marks_of}
use Rattle.fisca_evaluator.proofs.evaluator.Evaluator.new.Goals as goal

pub returns-clause-memory : goal.returns-clause-memory
returns-clause-memory g c =
    let marks = marks_of c.args.wheels.now in
    let src = sources (record { rules = rule_set c.args.rules.now; situation = situation c.args.situation; neutral = c.args.neutral.now }) in
    let entries = g.R.Recall.find c.args.recall in
    rw (c.new.ensures.rules, c.new.ensures.neutral) (subst (λ counts. IsMemory marks src entries counts.free) (sym c.new-4.ensures) (empty_memory marks src entries c.requires.empty))

pub returns-clause-ready : goal.returns-clause-ready
returns-clause-ready g c ready = record { ready = rw (c.new.ensures.rules, c.new.ensures.neutral) ready; memory = returns-clause-memory g c }
