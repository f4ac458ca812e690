use Rattle.std.proofs.Common.{◌≡◌, ◌++◌, map}
use Rattle.fisca_scales.specs.Dates.{numbered_pair}
use Rattle.fisca_scales.proofs.dates.Dates.from_map.Given as goal

-- what is done, and what is left, are the whole
abbrev pub invariant-loop-day : goal.invariant-loop-day
invariant-loop-day g l = l.items.items ++ map numbered_pair l.day-iterator ≡ map numbered_pair l.sorted.entries
