use Rattle.std.proofs.Common.{◌≡◌, ◌≤◌, drop, length, map}
use Rattle.std.specs.List.{filter_map}
use Rattle.fisca_scales.specs.Scale.{in_order}
use Rattle.fisca_scales.specs.Steps.Scale.{complete_at}
use Rattle.fisca_scales.specs.Sorted.{bracket_of}
use Rattle.fisca_scales.proofs.BracketMaps.{Kept}
use Rattle.fisca_scales.proofs.sorted.by_threshold.Given as goal

-- the brackets from `at` on are in order
abbrev pub invariant-loop-at : goal.invariant-loop-at
invariant-loop-at l =
    (l.at ≤ length l.brackets)
    × (map bracket_of l.sorted.entries ≡ in_order (filter_map (complete_at l.kind l.instant) (drop l.at l.brackets)))
    × Kept l.at l.sorted.entries

abbrev pub decreases-loop-at : goal.decreases-loop-at
decreases-loop-at l = l.at
