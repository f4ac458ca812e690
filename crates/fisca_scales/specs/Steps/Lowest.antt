-- The lowest of brackets that may be written in any order.
use Rattle.std.specs.Prelude.{false, List, [], ◌∷◌, Option, Some, None, if◌then◌else◌}
use Rattle.std.specs.Ordering.{is_eq}
use Rattle.fisca_num.specs.Number.{Number, number_cmp}
use Rattle.fisca_scales.specs.declared.bracket.CompleteBracket.{CompleteBracket}
use Rattle.fisca_scales.specs.declared.lowest.Lowest.{Lowest}
use Rattle.fisca_scales.specs.Steps.Scale.{is_below}
use Rattle.fisca_scales.specs.Steps.Tally.{is_above}

-- the lowest of a bracket and of others
abbrev pub lower_of : CompleteBracket → Option Lowest → Lowest
lower_of b None = record { bracket = b; is_shared = false }
lower_of b (Some l) =
    if is_below l.bracket.threshold b.threshold then l
    else record { bracket = b; is_shared = is_eq (number_cmp b.threshold l.bracket.threshold) }

-- the lowest of the brackets above a threshold, and whether another has its threshold
abbrev pub lowest_above : Option Number → List CompleteBracket → Option Lowest
lowest_above above [] = None
lowest_above above (b ∷ bs) =
    if is_above above b.threshold then Some (lower_of b (lowest_above above bs)) else lowest_above above bs
