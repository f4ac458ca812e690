-- The steps of code behind `Tally`:
-- A sum that is worked out bracket by bracket: each counts once the next threshold is known.
use Rattle.std.specs.Prelude.{Bool, true, false, List, [], ◌∷◌, Option, Some, None, Result, Err, is_none, if◌then◌else◌}
use Rattle.fisca_num.specs.Number.{Number}
use Rattle.fisca_num.specs.declared.faults.NumFault.{NumFault}
use Rattle.fisca_scales.specs.declared.fault.ParamFault.{ParamFault}
use Rattle.fisca_scales.specs.declared.fault.ParamFault.TheVariants as fault
use Rattle.fisca_scales.specs.declared.bracket.CompleteBracket.{CompleteBracket}
use Rattle.fisca_scales.specs.declared.tally.Tally.{Tally}
use Rattle.fisca_num.specs.Results.{and_then}
use Rattle.fisca_scales.specs.Scale.{after_bracket, in_params, has_equal}
use Rattle.fisca_scales.specs.Steps.Scale.{is_below}
use Rattle.fisca_scales.specs.Tally.{threshold_of}

abbrev pub last_counted : Tally → Option CompleteBracket → Option Number → Result Number NumFault
last_counted t None next = t.sum
last_counted t (Some b) next = and_then t.sum (λ s. after_bracket t.kind t.base s b next)

-- the sum with the last bracket, whose next threshold is given
abbrev pub with_last : Tally → Option Number → Result Number NumFault
with_last t next = last_counted t t.last next

abbrev pub tally_with : Tally → CompleteBracket → Tally
tally_with t b = record { kind = t.kind; base = t.base; last = Some b; sum = with_last t (Some b.threshold) }

abbrev pub tally_of : Tally → List CompleteBracket → Tally
tally_of t [] = t
tally_of t (b ∷ bs) = tally_of (tally_with t b) bs

-- the sum with all brackets
abbrev pub answer_of : Tally → Result Number ParamFault
answer_of t = if is_none t.last then Err fault.Undefined else in_params (with_last t None)

-- above a threshold, where one is given
abbrev pub is_above : Option Number → Number → Bool
is_above None t = true
is_above (Some low) t = is_below low t

-- whether the thresholds rise, from that of a bracket before them
abbrev pub rises_from : Option CompleteBracket → List CompleteBracket → Bool
rises_from before [] = true
rises_from before (b ∷ bs) = if is_above (threshold_of before) b.threshold then rises_from (Some b) bs else false

-- the sum over brackets that rise, from a tally on
abbrev pub sum_if_rising : Tally → List CompleteBracket → Option (Result Number ParamFault)
sum_if_rising t bs = if rises_from t.last bs then Some (answer_of (tally_of t bs)) else None

-- the sum over brackets no two of which have one threshold, from a tally on
abbrev pub sum_if_distinct : Tally → List CompleteBracket → Result Number ParamFault
sum_if_distinct t bs = if has_equal bs then Err fault.BadScale else answer_of (tally_of t bs)
