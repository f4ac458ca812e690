-- Instants: days of the calendar from 0001-01-01 to 9999-12-31.
use Rattle.std.specs.Prelude.{ℕ, pos, Bool, ◌&&◌, nat_le, if◌then◌else◌, List, [], ◌∷◌, Option, Some, None, Result, Ok, Err}
use Rattle.std.specs.Ordering.{nat_cmp, on, then_cmp}
use Rattle.std.specs.Str.Parse.{digits_value}
use Rattle.std.specs.declared.cmp.Ordering.{Ordering}
use Rattle.jiff_core.specs.Calendar.{days_in_month}
use Rattle.fisca_time.specs.Pieces.{pieces, dash, is_numeral}
use Rattle.fisca_time.specs.declared.fault.TimeFault.{TimeFault}
use Rattle.fisca_time.specs.declared.fault.TimeFault.TheVariants.{BadText, OutOfRange}

-- a year, a month and a day of the month
pub record CivilDate : Type 0 where
  pub year : ℕ
  pub month : ℕ
  pub day : ℕ

-- by time: by year, then month, then day
abbrev pub date_cmp : CivilDate → CivilDate → Ordering
date_cmp = then_cmp (on (λ d. d.year) nat_cmp) (then_cmp (on (λ d. d.month) nat_cmp) (on (λ d. d.day) nat_cmp))

-- n lies from low to high, both included
abbrev pub is_between : ℕ → ℕ → ℕ → Bool
is_between low high n = nat_le low n && nat_le n high

-- the calendar has this day, in a year from 1 to 9999
abbrev pub is_on_calendar : CivilDate → Bool
is_on_calendar d =
    is_between 1 9999 d.year && is_between 1 12 d.month && is_between 1 (days_in_month (pos d.year) d.month) d.day

-- the numbers of YYYY, MM and DD, pieces between dashes
abbrev pub date_of_pieces : List (List ℕ) → Option CivilDate
date_of_pieces (year ∷ month ∷ day ∷ []) =
    if is_numeral 4 year && is_numeral 2 month && is_numeral 2 day
    then Some (record { year = digits_value 10 year; month = digits_value 10 month; day = digits_value 10 day })
    else None
date_of_pieces _ = None

-- a date of the form YYYY-MM-DD is an instant where the calendar has it
abbrev pub instant_if_real : Option CivilDate → Result CivilDate TimeFault
instant_if_real None = Err BadText
instant_if_real (Some date) = if is_on_calendar date then Ok date else Err OutOfRange

-- what a text says as an instant
abbrev pub instant_of_text : List ℕ → Result CivilDate TimeFault
instant_of_text text = instant_if_real (date_of_pieces (pieces dash text))
