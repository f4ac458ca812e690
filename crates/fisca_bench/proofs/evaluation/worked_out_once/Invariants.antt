use Rattle.std.proofs.Common.{◌≡◌}
use Rattle.fisca_simulation.specs.Evaluators.{simulation_of}
use Rattle.fisca_bench.proofs.evaluation.worked_out_once.Given as goal

abbrev pub invariant-loop-key : goal.invariant-loop-key
invariant-loop-key l = simulation_of l.evaluator ≡ simulation_of l.fn.evaluator
