-- Periods: eternity, a size counted in a unit of months from the first of a month on, or a size counted in days from a day on.
use Rattle.std.specs.Prelude.{◌≡◌, ◌⊎◌, ⊤, ℕ, ◌+◌, ◌-◌, ◌*◌, ◌<◌, ◌≤◌, ℤ, pos, negsuc, ◌+ℤ◌, ◌-ℤ◌, ◌*ℤ◌, Bool, true, false, ◌&&◌, ◌||◌, nat_le, if◌then◌else◌, List, [], map, Option, Some, None, Result, Ok, Err}
use Rattle.std.specs.Bool.{OnFalse}
use Rattle.std.specs.List.{range_with_len}
use Rattle.std.specs.Ordering.{nat_cmp, on, then_cmp}
use Rattle.std.specs.declared.cmp.Ordering.{Ordering}
use Rattle.fisca_time.specs.Calendar.{year_of, month_number, first_of_month, day_in_month, day_number, first_day, end_day, date_of}
use Rattle.fisca_time.specs.Instant.{CivilDate, is_between}
use Rattle.fisca_time.specs.Unit.{months_in, is_day, is_month, is_year, unit_cmp}
use Rattle.fisca_time.specs.declared.fault.TimeFault.{TimeFault}
use Rattle.fisca_time.specs.declared.fault.TimeFault.TheVariants.{OutOfRange}
use Rattle.fisca_time.specs.declared.unit.Unit.{Unit}
use Rattle.fisca_time.specs.declared.unit.Unit.TheVariants.{Day, Month, Year, Eternity}

-- a period: all of time; a unit, the number of its first month, and its size in that unit; or the number of its first day, and its size in days
pub data Span : Type 0 where
  eternity : Span
  months : Unit → ℕ → ℕ → Span
  days : ℕ → ℕ → Span

abbrev pub is_eternal : Span → Bool
is_eternal eternity = true
is_eternal (months _ _ _) = false
is_eternal (days _ _) = false

abbrev pub unit_of : Span → Unit
unit_of eternity = Eternity
unit_of (months unit _ _) = unit
unit_of (days _ _) = Day

-- the number of its first month under months and years, and of its first day under days
abbrev pub first_of : Span → ℕ
first_of eternity = 0
first_of (months _ first _) = first
first_of (days first _) = first

abbrev pub size_of : Span → ℕ
size_of eternity = 0
size_of (months _ _ size) = size
size_of (days _ size) = size

-- by unit, then start, then size
abbrev pub span_cmp : Span → Span → Ordering
span_cmp = then_cmp (on unit_of unit_cmp) (then_cmp (on first_of nat_cmp) (on size_of nat_cmp))

-- how many months a period has that is counted in months
abbrev pub months_of : Span → ℕ
months_of eternity = 0
months_of (months unit _ size) = months_in unit * size
months_of (days _ _) = 0

-- that many from the first on lie between low and the end
abbrev pub is_within : ℕ → ℕ → ℕ → ℕ → Bool
is_within low end first size = nat_le low first && nat_le (first + size) end

-- all months lie from January of the year 1 to December of the year 9999, and all days from 0001-01-01 to 9999-12-31
abbrev pub is_in_calendar : Span → Bool
is_in_calendar eternity = true
is_in_calendar (months unit first size) = is_within 12 120_000 first (months_in unit * size)
is_in_calendar (days first size) = is_within first_day end_day first size

-- the spans that are periods
abbrev pub is_period : Span → Bool
is_period eternity = true
is_period (months unit first size) = (is_month unit || is_year unit) && is_between 1 1200 size && is_in_calendar (months unit first size)
is_period (days first size) = is_between 1 1200 size && is_in_calendar (days first size)

-- ---- days

-- the number of the first day of a month
abbrev pub month_start : ℕ → ℕ
month_start month = day_number (first_of_month month)

-- the number of the first day of a period, and of the day after its last one
abbrev pub start_day : Span → ℕ
start_day eternity = 0
start_day (months _ first _) = month_start first
start_day (days first _) = first

abbrev pub stop_day : Span → ℕ
stop_day eternity = 0
stop_day (months unit first size) = month_start (first + months_in unit * size)
stop_day (days first size) = first + size

-- how many days a period other than eternity has
abbrev pub days_of : Span → ℕ
days_of p = stop_day p - start_day p

-- the day lies in the period; every day lies in eternity
abbrev pub Covers : Span → ℕ → Type 0
Covers p day = OnFalse (is_eternal p) ((start_day p ≤ day) × (day < stop_day p))

-- some day lies in both
abbrev pub Overlaps : Span → Span → Type 0
Overlaps p q = (day : ℕ) × Covers p day × Covers q day

-- the day on which a period starts
abbrev pub start_of : Span → Option CivilDate
start_of eternity = None
start_of (months _ first _) = Some (first_of_month first)
start_of (days first _) = Some (date_of first)

-- the month in which a period starts
abbrev pub month_of : Span → ℕ
month_of eternity = 0
month_of (months _ first _) = first
month_of (days first _) = month_number (date_of first)

-- ---- moves

abbrev pub if_in_calendar : Span → Result Span TimeFault
if_in_calendar p = if is_in_calendar p then Ok p else Err OutOfRange

-- the span of this unit and size from a month on, where it stays between 0001-01 and 9999-12
abbrev pub months_from : Unit → ℕ → ℤ → Result Span TimeFault
months_from unit size (pos first) = if_in_calendar (months unit first size)
months_from unit size (negsuc _) = Err OutOfRange

-- so many days from a day on, where they stay between 0001-01-01 and 9999-12-31
abbrev pub days_from : ℕ → ℤ → Result Span TimeFault
days_from size (pos first) = if_in_calendar (days first size)
days_from size (negsuc _) = Err OutOfRange

-- so many days from that day of a month on, or from its last one where the month is too short
abbrev pub days_from_month : ℕ → ℕ → ℤ → Result Span TimeFault
days_from_month size day (pos month) = if is_between 12 119_999 month then days_from size (pos (day_number (day_in_month day month))) else Err OutOfRange
days_from_month size day (negsuc _) = Err OutOfRange

-- a month moved by k of a unit of months
abbrev pub later_month : ℤ → Unit → ℕ → ℤ
later_month k unit month = pos month +ℤ k *ℤ pos (months_in unit)

-- a start moved by k of a unit: a month by months and years alone, a day by days too; nothing is moved by eternities
abbrev pub months_moved : ℤ → Unit → Unit → ℕ → ℕ → Result Span TimeFault
months_moved k Day own first size = Err OutOfRange
months_moved k Month own first size = months_from own size (later_month k Month first)
months_moved k Year own first size = months_from own size (later_month k Year first)
months_moved k Eternity own first size = Err OutOfRange

abbrev pub days_moved : ℤ → Unit → ℕ → ℕ → Result Span TimeFault
days_moved k Day first size = days_from size (pos first +ℤ k)
days_moved k Month first size = days_from_month size (date_of first).day (later_month k Month (month_number (date_of first)))
days_moved k Year first size = days_from_month size (date_of first).day (later_month k Year (month_number (date_of first)))
days_moved k Eternity first size = Err OutOfRange

-- the period with its start moved and its own unit and size; eternity is not moved
abbrev pub moved_by : ℤ → Unit → Span → Result Span TimeFault
moved_by k unit eternity = Err OutOfRange
moved_by k unit (months own first size) = months_moved k unit own first size
moved_by k unit (days first size) = days_moved k unit first size

-- a move from p to q met no month that was too short: days that were moved by months or years keep their place in the month
abbrev pub KeepsDay : Unit → Span → Span → Type 0
KeepsDay unit eternity q = ⊤
KeepsDay unit (months _ _ _) q = ⊤
KeepsDay unit (days first _) q = (is_day unit ≡ true) ⊎ ((date_of first).day ≡ (date_of (first_of q)).day)

-- a move of every period but eternity
abbrev pub unless_eternal : Span → Result Span TimeFault → Result Span TimeFault
unless_eternal p moved = if is_eternal p then Err OutOfRange else moved

abbrev pub year_at : ℕ → Span
year_at year = months Year (12 * year) 1

abbrev pub month_at : ℕ → Span
month_at month = months Month month 1

abbrev pub day_at : ℕ → Span
day_at day = days day 1

-- the calendar year, the month and the day of the start
abbrev pub this_year_of : Span → Result Span TimeFault
this_year_of p = unless_eternal p (Ok (year_at (year_of (month_of p))))

abbrev pub first_month_of : Span → Result Span TimeFault
first_month_of p = unless_eternal p (Ok (month_at (month_of p)))

abbrev pub first_day_of : Span → Result Span TimeFault
first_day_of p = unless_eternal p (Ok (day_at (start_day p)))

abbrev pub last_month_of : Span → Result Span TimeFault
last_month_of p = unless_eternal p (moved_by (negsuc 0) Month (month_at (month_of p)))

abbrev pub last_year_of : Span → Result Span TimeFault
last_year_of p = unless_eternal p (moved_by (negsuc 0) Year (year_at (year_of (month_of p))))

abbrev pub n_2_of : Span → Result Span TimeFault
n_2_of p = unless_eternal p (moved_by (negsuc 1) Year (year_at (year_of (month_of p))))

-- the three months before the month of the start
abbrev pub last_3_months_of : Span → Result Span TimeFault
last_3_months_of p = unless_eternal p (months_from Month 3 (pos (month_of p) -ℤ pos 3))

-- ---- parts

-- the calendar years of a year period from that of its start on
abbrev pub years_of : Unit → ℕ → ℕ → List Span
years_of unit first size = map year_at (range_with_len (year_of first) (if is_year unit then size else 0))

-- the subperiods by a unit in order of time: the days of a period, the months of one that is counted in months, the years of a year period
abbrev pub subs : Span → Unit → List Span
subs eternity unit = []
subs (months unit first size) Day = map day_at (range_with_len (month_start first) (days_of (months unit first size)))
subs (months unit first size) Month = map month_at (range_with_len first (months_in unit * size))
subs (months unit first size) Year = years_of unit first size
subs (months unit first size) Eternity = []
subs (days first size) Day = map day_at (range_with_len first size)
subs (days first size) Month = []
subs (days first size) Year = []
subs (days first size) Eternity = []
