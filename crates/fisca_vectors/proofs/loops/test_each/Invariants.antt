use Rattle.std.proofs.Common.{◌≡◌, ℕ, ◌<◌, pos, ◌*ℤ◌}
use Rattle.fisca_vectors.specs.Numerators.{at}
use Rattle.fisca_vectors.specs.Vectors.{flag}
use Rattle.fisca_vectors.proofs.loops.test_each.Given as goal

abbrev pub invariant-loop-i : goal.invariant-loop-i
invariant-loop-i g l = (k : ℕ) → k < l.i → flag l.out k ≡ g.T.Test.test l.test (at l.left k *ℤ pos (g.B.Bring.left l.by)) (g.S.Side.at l.right k *ℤ pos (g.B.Bring.right l.by))
