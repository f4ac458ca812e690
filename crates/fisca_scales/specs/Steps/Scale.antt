-- The steps of code behind `Scale`:
-- The three sums of a scale.
use Rattle.std.specs.Prelude.{Bool, List, Option, Some, None, is_some, if◌then◌else◌}
use Rattle.std.specs.Ordering.{is_lt}
use Rattle.fisca_num.specs.Number.{Number, number_cmp}
use Rattle.fisca_time.specs.Instant.{CivilDate}
use Rattle.fisca_scales.specs.Dates.{value_at}
use Rattle.fisca_scales.specs.Dates.{Dated}
use Rattle.fisca_scales.specs.declared.bracket.Bracket.{Bracket}
use Rattle.fisca_scales.specs.declared.bracket.CompleteBracket.{CompleteBracket}
use Rattle.fisca_scales.specs.declared.bracket.ScaleKind.{ScaleKind}
use Rattle.fisca_scales.specs.declared.bracket.ScaleKind.TheVariants.{MarginalRate, MarginalAmount, SingleAmount}

abbrev pub has_amount_at : CivilDate → Bracket → Bool
has_amount_at instant b = is_some (value_at b.amount instant)

-- the field that a kind of scale sums
abbrev pub summed_field : ScaleKind → Bracket → List (Dated Number)
summed_field MarginalRate b = b.rate
summed_field MarginalAmount b = b.amount
summed_field SingleAmount b = b.amount

abbrev pub complete_if_both : Option Number → Option Number → Option CompleteBracket
complete_if_both (Some t) (Some v) = Some (record { threshold = t; value = v })
complete_if_both (Some t) None = None
complete_if_both None v = None

-- a bracket as it stands at an instant, where it has its threshold and the field summed
abbrev pub complete_at : ScaleKind → CivilDate → Bracket → Option CompleteBracket
complete_at kind instant b = complete_if_both (value_at b.threshold instant) (value_at (summed_field kind b) instant)

abbrev pub is_below : Number → Number → Bool
is_below a b = is_lt (number_cmp a b)

-- the base, or the next threshold where that is less
abbrev pub upper_end : Number → Option Number → Number
upper_end base None = base
upper_end base (Some next) = if is_below next base then next else base
