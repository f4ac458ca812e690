use Rattle.std.proofs.Common.{◌≡◌, drop, map}
use Rattle.fisca_scales.specs.Steps.Dates.{in_time, in_time_with}
use Rattle.fisca_scales.specs.Dates.{numbered_pair}
use Rattle.fisca_scales.proofs.dates.Dates.in_time.Given as goal

-- what is left, put among what is in order, gives the whole
abbrev pub invariant-loop-dated : goal.invariant-loop-dated
invariant-loop-dated g l = in_time l.dated-items ≡ in_time_with (map numbered_pair l.sorted.entries) (drop l.dated-index l.dated-items)
