use Rattle.std.proofs.Common.{◌≡◌, length}
use Rattle.std.specs.List.{filter_map}
use Rattle.fisca_scales.specs.Scale.{in_order}
use Rattle.fisca_scales.specs.Steps.Scale.{complete_at}
use Rattle.fisca_scales.specs.Steps.Tally.{sum_if_distinct}
use Rattle.fisca_scales.proofs.Thresholds.{above_only}
use Rattle.fisca_scales.proofs.scale.sum_in_order.Given as goal

-- the brackets above the last gives the whole sum
abbrev pub invariant-loop-lowest : goal.invariant-loop-lowest
invariant-loop-lowest l =
    sum_if_distinct l.initial.tally (in_order (filter_map (complete_at l.kind l.instant) l.brackets))
    ≡ sum_if_distinct l.tally (above_only l.above (in_order (filter_map (complete_at l.kind l.instant) l.brackets)))

abbrev pub decreases-loop-lowest : goal.decreases-loop-lowest
decreases-loop-lowest l = length (above_only l.above (in_order (filter_map (complete_at l.kind l.instant) l.brackets)))
