use Rattle.std.proofs.Common.{◌≡◌, ℕ, ◌<◌, ◌≤◌, ◌*ℤ◌}
use Rattle.fisca_vectors.specs.Numerators.{at}
use Rattle.fisca_vectors.proofs.loops.multiply_each.Given as goal

abbrev pub invariant-loop-i : goal.invariant-loop-i
invariant-loop-i g l = record {
  done : (k : ℕ) → k < l.i → at l.out k ≡ at l.initial.out k *ℤ g.S.Side.at l.right k;
  left : (k : ℕ) → l.i ≤ k → at l.out k ≡ at l.initial.out k;
}
