use Rattle.std.proofs.Common.{◌≡◌, map, take, not}
use Rattle.fisca_vectors.proofs.mask.Mask.not.Given as goal

abbrev pub invariant-loop-flag : goal.invariant-loop-flag
invariant-loop-flag l = l.flags.items ≡ map not (take l.flag-index l.self)
