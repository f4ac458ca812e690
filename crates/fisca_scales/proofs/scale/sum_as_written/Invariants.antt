use Rattle.std.proofs.Common.{◌≡◌, drop}
use Rattle.std.specs.List.{filter_map}
use Rattle.fisca_scales.specs.Steps.Scale.{complete_at}
use Rattle.fisca_scales.specs.Steps.Tally.{sum_if_rising}
use Rattle.fisca_scales.proofs.scale.sum_as_written.Given as goal

-- what is left gives the whole sum
abbrev pub invariant-loop-bracket : goal.invariant-loop-bracket
invariant-loop-bracket l =
    sum_if_rising l.initial.tally (filter_map (complete_at l.kind l.instant) l.brackets)
    ≡ sum_if_rising l.tally (filter_map (complete_at l.kind l.instant) (drop l.bracket-index l.brackets))
