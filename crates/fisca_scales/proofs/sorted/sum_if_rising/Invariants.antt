use Rattle.std.proofs.Common.{◌≡◌, map}
use Rattle.fisca_scales.specs.Sorted.{bracket_of}
use Rattle.fisca_scales.specs.Steps.Tally.{sum_if_rising}
use Rattle.fisca_scales.proofs.sorted.sum_if_rising.Given as goal

-- what is left gives the whole sum
abbrev pub invariant-loop-key : goal.invariant-loop-key
invariant-loop-key l =
    sum_if_rising l.initial.tally (map bracket_of l.sorted.entries) ≡ sum_if_rising l.tally (map bracket_of l.key-iterator)
