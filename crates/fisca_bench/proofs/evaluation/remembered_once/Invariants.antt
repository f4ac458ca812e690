use Rattle.std.proofs.Common.{◌≡◌}
use Rattle.fisca_evaluator.specs.Evaluators.{IsMemoryOf, marks_in, simulation_of}
use Rattle.fisca_bench.proofs.evaluation.remembered_once.Given as goal

abbrev pub invariant-loop-key : goal.invariant-loop-key
invariant-loop-key g l = (simulation_of l.evaluator ≡ simulation_of l.fn.evaluator) × (marks_in l.evaluator ≡ marks_in l.fn.evaluator)
    × IsMemoryOf (marks_in l.fn.evaluator) (simulation_of l.fn.evaluator) (g.R.Recall.find l.evaluator.store.recall) l.evaluator.store.counts.free
