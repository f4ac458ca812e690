use Rattle.std.proofs.Common.{◌≡◌, take}
use Rattle.std.specs.List.{count_by}
use Rattle.fisca_vectors.proofs.mask.Mask.count.Given as goal

abbrev pub invariant-loop-flag : goal.invariant-loop-flag
invariant-loop-flag l = l.count ≡ count_by (λ f. f) (take l.flag-index l.self)
