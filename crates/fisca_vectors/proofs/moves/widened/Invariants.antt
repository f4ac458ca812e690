use Rattle.std.proofs.Common.{◌≡◌, take}
use Rattle.fisca_vectors.specs.Moved.{widened}
use Rattle.fisca_vectors.proofs.moves.widened.Given as goal

abbrev pub invariant-loop-numerator : goal.invariant-loop-numerator
invariant-loop-numerator l = l.made.items ≡ widened l.by (take l.numerator-index l.numerators)
