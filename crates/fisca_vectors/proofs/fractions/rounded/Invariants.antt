use Rattle.std.proofs.Common.{◌≡◌, ℕ, ◌<◌, length, Ok}
use Rattle.fisca_vectors.specs.Each.{rounded_by}
use Rattle.fisca_vectors.specs.Vectors.{lane}
use Rattle.fisca_vectors.proofs.fractions.rounded.Given as goal

abbrev pub invariant-loop-i : goal.invariant-loop-i
invariant-loop-i l = record {
  lanes : length l.made.items ≡ length l.numbers;
  done : (k : ℕ) → k < l.i → rounded_by l.rounding (lane l.numbers k) ≡ Ok (lane l.made.items k);
}
