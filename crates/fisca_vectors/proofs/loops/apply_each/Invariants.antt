use Rattle.std.proofs.Common.{◌≡◌, ℕ, ◌<◌, ◌≤◌, pos, ◌*ℤ◌}
use Rattle.fisca_vectors.specs.Numerators.{at}
use Rattle.fisca_vectors.proofs.loops.apply_each.Given as goal

abbrev pub invariant-loop-i : goal.invariant-loop-i
invariant-loop-i g l = record {
  done : (k : ℕ) → k < l.i → at l.out k ≡ g.O.Pairwise.op l.operation (at l.initial.out k *ℤ pos (g.B.Bring.left l.by)) (g.S.Side.at l.right k *ℤ pos (g.B.Bring.right l.by));
  left : (k : ℕ) → l.i ≤ k → at l.out k ≡ at l.initial.out k;
}
