-- The three sums of a scale.
use Rattle.std.specs.Prelude.{Bool, false, ◌||◌, List, [], ◌∷◌, Option, Some, None, Result, Ok, Err, if◌then◌else◌}
use Rattle.std.specs.List.{list_any, filter_map}
use Rattle.std.specs.Ordering.{is_eq}
use Rattle.fisca_num.specs.Number.{Number, number_cmp, zero_number}
use Rattle.fisca_num.specs.Operations.{sum_of, difference_of, product_of}
use Rattle.fisca_num.specs.declared.faults.NumFault.{NumFault}
use Rattle.fisca_time.specs.Instant.{CivilDate}
use Rattle.fisca_num.specs.Results.{and_then}
use Rattle.fisca_scales.specs.declared.fault.ParamFault.{ParamFault}
use Rattle.fisca_scales.specs.declared.fault.ParamFault.TheVariants as fault
use Rattle.fisca_scales.specs.declared.bracket.Bracket.{Bracket}
use Rattle.fisca_scales.specs.declared.bracket.CompleteBracket.{CompleteBracket}
use Rattle.fisca_scales.specs.declared.bracket.ScaleKind.{ScaleKind}
use Rattle.fisca_scales.specs.declared.bracket.ScaleKind.TheVariants.{MarginalRate, MarginalAmount, SingleAmount}
use Rattle.fisca_scales.specs.Steps.Scale.{has_amount_at, complete_at, is_below, upper_end}

-- what a scale's file says of it
pub record ScaleText : Type 0 where
  pub is_single_amount : Bool
  pub brackets : List Bracket

-- a scale that is not marked single amount sums amounts where some bracket has one at the instant, else rates
abbrev pub kind_at : ScaleText → CivilDate → ScaleKind
kind_at scale instant =
    if scale.is_single_amount then SingleAmount
    else if list_any (has_amount_at instant) scale.brackets then MarginalAmount
    else MarginalRate

-- the brackets that are complete at an instant, as they are written
abbrev pub complete_brackets : ScaleText → CivilDate → List CompleteBracket
complete_brackets scale instant = filter_map (complete_at (kind_at scale instant) instant) scale.brackets

abbrev pub put_in_order : CompleteBracket → List CompleteBracket → List CompleteBracket
put_in_order b [] = b ∷ []
put_in_order b (c ∷ cs) = if is_below c.threshold b.threshold then c ∷ put_in_order b cs else b ∷ c ∷ cs

-- sorted by threshold
abbrev pub in_order : List CompleteBracket → List CompleteBracket
in_order [] = []
in_order (b ∷ bs) = put_in_order b (in_order bs)

abbrev pub starts_at : Number → List CompleteBracket → Bool
starts_at t [] = false
starts_at t (b ∷ bs) = is_eq (number_cmp t b.threshold)

-- two neighbours in order have one threshold
abbrev pub has_equal : List CompleteBracket → Bool
has_equal [] = false
has_equal (b ∷ bs) = starts_at b.threshold bs || has_equal bs

abbrev pub next_threshold : List CompleteBracket → Option Number
next_threshold [] = None
next_threshold (b ∷ bs) = Some b.threshold

-- sum + rate * (upper end - threshold)
abbrev pub plus_rate : Number → Number → CompleteBracket → Option Number → Result Number NumFault
plus_rate base sum b next =
    and_then (difference_of (upper_end base next) b.threshold) (λ part. and_then (product_of b.value part) (sum_of sum))

-- The sum after one more bracket: a marginal rate counts for the part of the base above its threshold and up to the
-- next, a marginal amount where its threshold is below the base, and a single amount stands in place of the one
-- before it where its threshold is not above the base.
abbrev pub after_bracket : ScaleKind → Number → Number → CompleteBracket → Option Number → Result Number NumFault
after_bracket MarginalRate base sum b next = if is_below b.threshold base then plus_rate base sum b next else Ok sum
after_bracket MarginalAmount base sum b next = if is_below b.threshold base then sum_of sum b.value else Ok sum
after_bracket SingleAmount base sum b next = if is_below base b.threshold then Ok sum else Ok b.value

-- the sum after all brackets, in order
abbrev pub total : ScaleKind → Number → Result Number NumFault → List CompleteBracket → Result Number NumFault
total kind base sum [] = sum
total kind base sum (b ∷ bs) = total kind base (and_then sum (λ s. after_bracket kind base s b (next_threshold bs))) bs

abbrev pub in_params : Result Number NumFault → Result Number ParamFault
in_params (Ok n) = Ok n
in_params (Err e) = Err (fault.Number e)

-- the sum over brackets that are sorted by threshold
abbrev pub sum_of_sorted : ScaleKind → Number → List CompleteBracket → Result Number ParamFault
sum_of_sorted kind base [] = Err fault.Undefined
sum_of_sorted kind base (b ∷ bs) =
    if has_equal (b ∷ bs) then Err fault.BadScale else in_params (total kind base (Ok zero_number) (b ∷ bs))

-- what a scale makes of a base at an instant
abbrev pub scale_sum : ScaleText → CivilDate → Number → Result Number ParamFault
scale_sum scale instant base =
    sum_of_sorted (kind_at scale instant) base (in_order (complete_brackets scale instant))
