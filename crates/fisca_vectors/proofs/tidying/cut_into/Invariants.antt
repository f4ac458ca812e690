use Rattle.std.proofs.Common.{◌≡◌, ℕ, ◌<◌, ◌≤◌, pos, ◌*ℤ◌}
use Rattle.fisca_vectors.specs.Numerators.{at}
use Rattle.fisca_vectors.proofs.tidying.cut_into.Given as goal

abbrev pub invariant-loop-i : goal.invariant-loop-i
invariant-loop-i l = record {
  done : (k : ℕ) → k < l.i → at l.out k *ℤ pos l.by ≡ at l.initial.out k;
  left : (k : ℕ) → l.i ≤ k → at l.out k ≡ at l.initial.out k;
}
