use Rattle.std.proofs.Common.{subst, sym}
use Rattle.fisca_simulation.specs.Simulations.{Simulation}
use Rattle.fisca_simulation.specs.Sound.{InputsFit}
use Rattle.fisca_bench.proofs.evaluation.forgotten.Goals as goal

pub worked_out-requires-clause-fit : goal.worked_out-requires-clause-fit
worked_out-requires-clause-fit c = subst (λ (s : Simulation). InputsFit s.rules s.situation) (sym c.new-evaluator.ensures) c.requires.fit
