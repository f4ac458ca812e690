use Rattle.std.proofs.Common.{◌≡◌, ℕ, ◌<◌, ◌≤◌}
use Rattle.fisca_vectors.specs.Numerators.{at}
use Rattle.fisca_vectors.specs.Vectors.{flag}
use Rattle.fisca_vectors.specs.Moved.{merged_of}
use Rattle.fisca_vectors.proofs.moves.merge_into.Given as goal

abbrev pub invariant-loop-i : goal.invariant-loop-i
invariant-loop-i g l = record {
  done : (k : ℕ) → k < l.i → at l.out k ≡ merged_of (g.B.Bring.left l.by) (g.B.Bring.right l.by) (flag l.flags k) (at l.initial.out k) (at l.right k);
  left : (k : ℕ) → l.i ≤ k → at l.out k ≡ at l.initial.out k;
}
