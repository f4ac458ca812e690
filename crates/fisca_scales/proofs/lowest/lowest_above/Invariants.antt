use Rattle.std.proofs.Common.{◌≡◌, ◌≤◌, drop, length}
use Rattle.std.specs.List.{filter_map}
use Rattle.fisca_scales.specs.Steps.Scale.{complete_at}
use Rattle.fisca_scales.specs.Steps.Lowest.{lowest_above}
use Rattle.fisca_scales.proofs.lowest.lowest_above.Given as goal

-- the lowest of the brackets from `at` on
abbrev pub invariant-loop-at : goal.invariant-loop-at
invariant-loop-at l = (l.at ≤ length l.brackets) × (l.lowest ≡ lowest_above l.above (filter_map (complete_at l.kind l.instant) (drop l.at l.brackets)))

abbrev pub decreases-loop-at : goal.decreases-loop-at
decreases-loop-at l = l.at
