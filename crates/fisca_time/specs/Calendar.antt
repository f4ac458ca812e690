-- Months and days by number. Months are numbered from January of the year 0 on, which has the number 0,
-- and days as `jiff` counts them, from 1 January of the year -10000 on.
use Rattle.std.specs.Prelude.{ℕ, zero, suc, ◌+◌, ◌-◌, ◌*◌, ◌/◌, ◌%◌, min, nat_lt, if◌then◌else◌, pos}
use Rattle.jiff_core.specs.Calendar.{days_in_month, day_count}
use Rattle.fisca_time.specs.Instant.{CivilDate}

-- the year of a month, and its place in the year from 1 for January
abbrev pub year_of : ℕ → ℕ
year_of month = month / 12

abbrev pub month_of_year : ℕ → ℕ
month_of_year month = month % 12 + 1

-- the number of the month that a date lies in
abbrev pub month_number : CivilDate → ℕ
month_number d = 12 * d.year + (d.month - 1)

-- the first day of a month
abbrev pub first_of_month : ℕ → CivilDate
first_of_month month = record { year = year_of month; month = month_of_year month; day = 1 }

-- that day of a month, or its last one where the month is too short
abbrev pub day_in_month : ℕ → ℕ → CivilDate
day_in_month day month =
    record { year = year_of month; month = month_of_year month; day = min day (days_in_month (pos (year_of month)) (month_of_year month)) }

-- the number of a date
abbrev pub day_number : CivilDate → ℕ
day_number d = day_count (pos d.year) d.month d.day

-- the day after a date: in its month, else in the next one, else in the next year
abbrev pub next_day : CivilDate → CivilDate
next_day d =
    if nat_lt d.day (days_in_month (pos d.year) d.month) then record d { day = d.day + 1 }
    else (if nat_lt d.month 12 then record { year = d.year; month = d.month + 1; day = 1 }
    else record { year = d.year + 1; month = 1; day = 1 })

-- the date that many days after 0001-01-01
unfoldable pub days_later : ℕ → CivilDate
days_later zero = record { year = 1; month = 1; day = 1 }
days_later (suc n) = next_day (days_later n)

-- the numbers of 0001-01-01 and of the day after 9999-12-31
abbrev pub first_day : ℕ
first_day = 3_652_791

abbrev pub end_day : ℕ
end_day = 7_304_850

-- the date of a day from 0001-01-01 on
abbrev pub date_of : ℕ → CivilDate
date_of day = days_later (day - first_day)
