use Rattle.std.proofs.Common.{◌≡◌, ℕ, ◌<◌, ◌≤◌, ◌||◌}
use Rattle.fisca_vectors.specs.Vectors.{flag}
use Rattle.fisca_vectors.proofs.mask.or_each.Given as goal

abbrev pub invariant-loop-i : goal.invariant-loop-i
invariant-loop-i l = record {
  done : (k : ℕ) → k < l.i → flag l.out k ≡ (flag l.initial.out k || flag l.other k);
  left : (k : ℕ) → l.i ≤ k → flag l.out k ≡ flag l.initial.out k;
}
