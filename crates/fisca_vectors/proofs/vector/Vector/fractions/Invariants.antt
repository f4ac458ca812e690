use Rattle.std.proofs.Common.{◌≡◌, take}
use Rattle.fisca_vectors.proofs.vector.Vector.fractions.Given as goal

abbrev pub invariant-loop-index : goal.invariant-loop-index
invariant-loop-index l = l.items.items ≡ take l.index l.self
