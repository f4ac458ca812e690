use Rattle.std.proofs.Common.{ℕ, ◌<◌, ◌≤◌, unsigned_abs}
use Rattle.fisca_vectors.specs.Numerators.{at}
use Rattle.fisca_vectors.proofs.vector.greatest_size.Given as goal

abbrev pub invariant-loop-number : goal.invariant-loop-number
invariant-loop-number l = (k : ℕ) → k < l.number-index → unsigned_abs (at l.numerators k) ≤ l.greatest
