use Rattle.std.proofs.Common.{◌≡◌}
use Rattle.fisca_simulation.specs.Evaluators.{simulation_of}
use Rattle.fisca_bench.proofs.evaluation.worked_out.Given as goal

abbrev pub invariant-loop-round : goal.invariant-loop-round
invariant-loop-round l = simulation_of l.evaluator ≡ simulation_of l.fn.evaluator
