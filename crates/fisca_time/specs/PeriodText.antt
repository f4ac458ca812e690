-- Texts of periods. A start is a year, a month or a day: `2010`, `2010-4` or `2010-04`, `2010-4-5` or `2010-04-05`. A period is written
-- as a start, as a unit and a start, or as a unit, a start and a size, with colons between: `2010-04`, `year:2010-04`, `day:2010-04-05:3`.
-- Eternity has two words of its own.
use Rattle.std.specs.Prelude.{◌≡◌, ◌≤◌, IsTrue, true, ℕ, ◌-◌, min, pos, Bool, ◌&&◌, ◌||◌, nat_lt, nat_eq, ◌==◌, replicate, ◌++◌, if◌then◌else◌, List, [], ◌∷◌, length, codes, Option, Some, None, Result, Ok, Err, option_and_then, option_map}
use Rattle.std.specs.Cmp.Lexicographic.{pointwise}
use Rattle.std.specs.Fmt.{decimal}
use Rattle.std.specs.Str.{all_ascii_digits}
use Rattle.std.specs.Str.Parse.{digits_value}
use Rattle.fisca_time.specs.Calendar.{year_of, month_of_year, month_number, day_number, date_of}
use Rattle.fisca_time.specs.Instant.{CivilDate, is_between, is_on_calendar}
use Rattle.fisca_time.specs.Period.{Span, eternity, months, days, months_from, days_from}
use Rattle.fisca_time.specs.Pieces.{pieces, dash, colon, is_numeral}
use Rattle.fisca_time.specs.Unit.{is_day, is_month, is_year}
use Rattle.fisca_time.specs.declared.fault.TimeFault.{TimeFault}
use Rattle.fisca_time.specs.declared.fault.TimeFault.TheVariants.{BadText, OutOfRange}
use Rattle.fisca_time.specs.declared.form.Form.{Form}
use Rattle.fisca_time.specs.declared.unit.Unit.{Unit}
use Rattle.fisca_time.specs.declared.unit.Unit.TheVariants.{Day, Month, Year, Eternity}
use Rattle.fisca_time.specs.Steps.PeriodText.{start_in}

abbrev pub is_word : List ℕ → List ℕ → Bool
is_word word text = pointwise nat_eq text word

-- a month and a day are written in one digit or two
abbrev pub is_short_numeral : List ℕ → Bool
is_short_numeral text = is_numeral 1 text || is_numeral 2 text

-- a size is written in any number of digits from one on
abbrev pub is_size_text : List ℕ → Bool
is_size_text text = nat_lt 0 (length text) && all_ascii_digits text

-- a start by itself is one year, one month or one day; its pieces stand between dashes
abbrev pub start_of_pieces : List (List ℕ) → Option Form
start_of_pieces (year ∷ []) =
    if is_numeral 4 year then Some (record { unit = Year; year = digits_value 10 year; month = 1; day = 1; size = 1 }) else None
start_of_pieces (year ∷ month ∷ []) =
    if is_numeral 4 year && is_short_numeral month
    then Some (record { unit = Month; year = digits_value 10 year; month = digits_value 10 month; day = 1; size = 1 })
    else None
start_of_pieces (year ∷ month ∷ day ∷ []) =
    if is_numeral 4 year && is_short_numeral month && is_short_numeral day
    then Some (record { unit = Day; year = digits_value 10 year; month = digits_value 10 month; day = digits_value 10 day; size = 1 })
    else None
start_of_pieces _ = None

abbrev pub start_of_text : List ℕ → Option Form
start_of_text text = start_of_pieces (pieces dash text)

-- the unit that stands before a start
abbrev pub unit_named : List ℕ → Option Unit
unit_named word =
    if is_word (codes "year") word then Some Year
    else (if is_word (codes "month") word then Some Month
    else (if is_word (codes "day") word then Some Day else None))

-- years begin at a year or at a month, months at a month alone, and days at a day alone
abbrev pub form_in : Unit → Form → Option Form
form_in Year form = if is_day form.unit then None else Some (record form { unit = Year })
form_in Month form = if is_month form.unit then Some form else None
form_in Day form = if is_day form.unit then Some form else None
form_in Eternity form = None

abbrev pub form_of_start : List ℕ → List ℕ → Option Form
form_of_start word start = option_and_then (λ unit. option_and_then (form_in unit) (start_of_text start)) (unit_named word)

abbrev pub with_size : ℕ → Form → Form
with_size size form = record form { size = size }

-- what the pieces of a text between colons say
abbrev pub form_of_pieces : List (List ℕ) → Option Form
form_of_pieces (start ∷ []) = start_of_text start
form_of_pieces (word ∷ start ∷ []) = form_of_start word start
form_of_pieces (word ∷ start ∷ size ∷ []) =
    if is_size_text size then option_map (with_size (digits_value 10 size)) (form_of_start word start) else None
form_of_pieces _ = None

-- the same form, with a limit put on its size
abbrev pub with_limit : ℕ → Form → Form
with_limit most form = with_size (min most form.size) form

-- the first day of what is written
abbrev pub date_in : Form → CivilDate
date_in form = record { year = form.year; month = form.month; day = form.day }

-- the size counted in the unit from a date on; nothing is counted in eternities
abbrev pub period_from : Unit → ℕ → CivilDate → Result Span TimeFault
period_from Day size start = days_from size (pos (day_number start))
period_from Month size start = months_from Month size (pos (month_number start))
period_from Year size start = months_from Year size (pos (month_number start))
period_from Eternity size start = Err OutOfRange

-- a day of the calendar, a size from 1 to 1,200 and a last day up to 9999-12-31 make a period
abbrev pub period_of_form : Form → Result Span TimeFault
period_of_form form =
    if is_on_calendar (date_in form) && is_between 1 1200 form.size then period_from form.unit form.size (date_in form) else Err OutOfRange

abbrev pub period_if_written : Option Form → Result Span TimeFault
period_if_written None = Err BadText
period_if_written (Some form) = period_of_form form

-- what a text says as a period
abbrev pub period_of_text : List ℕ → Result Span TimeFault
period_of_text text =
    if is_word (codes "ETERNITY") text || is_word (codes "eternity") text then Ok eternity
    else period_if_written (form_of_pieces (pieces colon text))

-- ---- writing

-- a number in decimal digits, with zeros before it up to that many
abbrev pub digits_to : ℕ → ℕ → List ℕ
digits_to count number = replicate (count - length (decimal number)) 48 ++ decimal number

-- a year, month or day as a start, with months and days in two digits
abbrev pub year_text : ℕ → List ℕ
year_text year = digits_to 4 year

abbrev pub month_text : ℕ → ℕ → List ℕ
month_text year month = year_text year ++ codes "-" ++ digits_to 2 month

abbrev pub date_text : CivilDate → List ℕ
date_text d = month_text d.year d.month ++ codes "-" ++ digits_to 2 d.day

-- under years a January is written as its year
abbrev pub month_start_text : Unit → ℕ → List ℕ
month_start_text unit month =
    if is_year unit && (month_of_year month == 1) then year_text (year_of month) else month_text (year_of month) (month_of_year month)

abbrev pub unit_text : Unit → List ℕ
unit_text Day = codes "day"
unit_text Month = codes "month"
unit_text Year = codes "year"
unit_text Eternity = codes "ETERNITY"

-- a month by itself is a start, and so is a calendar year
abbrev pub names_itself : Unit → ℕ → Bool
names_itself unit month = is_month unit || (month_of_year month == 1)

-- a start, with its unit where it does not name itself, or with its unit and a size from 2 on
abbrev pub counted_text : Unit → Bool → List ℕ → ℕ → List ℕ
counted_text unit alone start size =
    if size == 1
    then (if alone then start else unit_text unit ++ codes ":" ++ start)
    else unit_text unit ++ codes ":" ++ start ++ codes ":" ++ decimal size

-- the shortest text that reads as the period in its own unit, with months and days in two digits
abbrev pub text_of : Span → List ℕ
text_of eternity = codes "ETERNITY"
text_of (months unit first size) = counted_text unit (names_itself unit first) (month_start_text unit first) size
text_of (days first size) = counted_text Day true (date_text (date_of first)) size

-- the month and the day of a start, if it has them, are in two digits
abbrev pub has_two_digits : List (List ℕ) → Bool
has_two_digits (_ ∷ month ∷ []) = length month == 2
has_two_digits (_ ∷ month ∷ day ∷ _) = (length month == 2) && (length day == 2)
has_two_digits _ = true

-- no text with months and days in two digits that reads as the period is shorter
abbrev pub IsShortest : Span → List ℕ → Type 0
IsShortest p text =
    (other : List ℕ) → period_of_text other ≡ Ok p → IsTrue (has_two_digits (pieces dash (start_in (pieces colon other)))) → length text ≤ length other
