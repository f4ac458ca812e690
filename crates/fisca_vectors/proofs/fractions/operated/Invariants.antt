use Rattle.std.proofs.Common.{◌≡◌, ℕ, ◌<◌, length, Ok}
use Rattle.fisca_vectors.specs.Each.{by_operation}
use Rattle.fisca_vectors.specs.Vectors.{lane}
use Rattle.fisca_vectors.proofs.fractions.operated.Given as goal

abbrev pub invariant-loop-i : goal.invariant-loop-i
invariant-loop-i l = record {
  lanes : length l.made.items ≡ length l.left;
  done : (k : ℕ) → k < l.i → by_operation l.operation (lane l.left k) (lane l.right k) ≡ Ok (lane l.made.items k);
}
