use Rattle.std.proofs.Common.{◌≡◌}
use Rattle.fisca_situations.specs.Steps.Views.{situation}
use Rattle.fisca_bench.proofs.evaluation.remembered.Given as goal

abbrev pub invariant-loop-round : goal.invariant-loop-round
invariant-loop-round l = situation l.situation ≡ situation l.fn.situation
