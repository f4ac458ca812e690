-- Days by number: dates and numbers give each other, and months follow each other.
use Rattle.std.proofs.Common.{◌≡◌, ℕ, zero, suc, ◌+◌, ◌-◌, ◌*◌, ◌/◌, ◌%◌, ◌<◌, ◌≤◌, true, false, ◌&&◌, arith, refl, ap, sym, ◌∙◌, inl, inr, ℤ, pos, negsuc, neg_ℤ, unsigned_abs, to_z, w16, ◌^◌, ◌+ℤ◌, ◌≤ℤ◌}
use Rattle.std.proofs.Math.Dec.{leb, ltb}
use Rattle.std.proofs.lemmas.Bool.{and_parts, and_from, cases_Bool, cases_lt, ltb-true, leb-true, le-leb}
use Rattle.std.proofs.lemmas.Bool.Decides.{nat_tests}
use Rattle.std.proofs.lemmas.Int.{by_lt_z, to_z_pos}
use Rattle.jiff_core.specs.declared.civil.date.Date.{Date}
use Rattle.jiff_core.specs.Calendar.{days_in_month, day_of_year, days_from_civil, day_count, IsCivilDate}
use Rattle.jiff_core.proofs.SignedLemmas.{signed_arith}
use Rattle.jiff_core.proofs.CalendarLemmas.{day_count-day, day_count-next_month, day_count-next_year, day_count-last_of_year, day_count-later_year, day_count-lt_year, day_count-day_of_year, day_count-end, day_count_bounds, days_in_month_bounds, days_from_civil-day_count}
use Rattle.jiff_core.proofs.DateLemmas.{epoch_day_injective}
use Rattle.jiff_core.proofs.MarchLemmas.{day_count-early}
use Rattle.fisca_time.specs.Calendar.{day_number, next_day, days_later, date_of, first_day, end_day}
use Rattle.fisca_time.specs.Instant.{CivilDate, is_between, is_on_calendar}
use Rattle.fisca_time.specs.Period.{month_start}

-- a day of the calendar in a year from 1 on
pub record IsReal (d : CivilDate) : Type 0 where
  pub year : 1 ≤ d.year
  pub month : 1 ≤ d.month
  pub month_end : d.month ≤ 12
  pub day : 1 ≤ d.day
  pub day_end : d.day ≤ days_in_month (pos d.year) d.month

pub day_number-start : day_count (pos 1) 1 1 ≡ 3_652_791
day_number-start = day_count-early (pos 1) 10000 1 1 refl (omega arith) (omega arith) (omega arith)

above_start : (y : ℕ) → neg_ℤ (pos 10000) ≤ℤ pos y
above_start y = omega (arith, signed_arith)

next_year : (y : ℕ) → pos (y + 1) ≡ pos y +ℤ pos 1
next_year y = omega (arith, signed_arith)

december : (y : ℕ) → day_count (pos (y + 1)) 1 1 ≡ day_count (pos y) 12 31 + 1
december y = omega (arith, day_count-next_year (pos y) (pos (y + 1)) (above_start y) (next_year y), day_count-last_of_year (pos y))

-- the day after a date is a day, with the next number
next_day_is : (d : CivilDate) → IsReal d → IsReal (next_day d) × (day_number (next_day d) ≡ day_number d + 1)
next_day_is d r =
    let here = r.day in
    elim (cases_Bool (ltb d.day (days_in_month (pos d.year) d.month))) [
      | inl more ↦
          let lt : d.day < days_in_month (pos d.year) d.month = ltb-true d.day (days_in_month (pos d.year) d.month) more in
          rw more (record { year = r.year; month = r.month; month_end = r.month_end; day = omega arith; day_end = omega arith }, omega (arith, day_count-day (pos d.year) d.month d.day (d.day + 1) r.day (omega arith)))
      | inr last ↦
          let lastly : d.day ≡ days_in_month (pos d.year) d.month = is_last d.day (days_in_month (pos d.year) d.month) last r.day_end in
          elim (cases_Bool (ltb d.month 12)) [
            | inl within ↦
                let lt : d.month < 12 = ltb-true d.month 12 within in
                let long = days_in_month_bounds (pos d.year) (d.month + 1) in
                rw (last, within) (
                  record { year = r.year; month = omega arith; month_end = omega arith; day = omega arith; day_end = omega (arith, long.1) },
                  omega (arith, day_count-next_month (pos d.year) d.month r.month, day_count-day (pos d.year) d.month d.day 1 r.day (omega arith)),
                )
            | inr after ↦
                let twelve : d.month ≡ 12 = is_last d.month 12 after r.month_end in
                let long = days_in_month_bounds (pos (d.year + 1)) 1 in
                let ends : d.day ≡ 31 = lastly ∙ ap (λ m. days_in_month (pos d.year) m) twelve in
                let from : day_count (pos d.year) d.month d.day ≡ day_count (pos d.year) 12 31 = ap (λ m. day_count (pos d.year) m d.day) twelve ∙ ap (λ n. day_count (pos d.year) 12 n) ends in
                rw (last, after) (
                  record { year = omega arith; month = omega arith; month_end = omega arith; day = omega arith; day_end = omega (arith, long.1) },
                  omega (arith, december d.year, from),
                )
          ]
    ]
  where
    is_last : (a b : ℕ) → ltb a b ≡ false → a ≤ b → a ≡ b
    is_last a b h k = grind (arith, nat_tests)

days_later_is : (n : ℕ) → IsReal (days_later n) × (day_number (days_later n) ≡ 3_652_791 + n)
unfolding days_later
days_later_is zero = (record { year = omega arith; month = omega arith; month_end = omega arith; day = omega arith; day_end = omega (arith, (days_in_month_bounds (pos 1) 1).1) }, day_number-start)
days_later_is (suc n) =
    let before = days_later_is n in
    let next = next_day_is (days_later n) before.0 in
    (next.0, omega (arith, next.1, before.1))

-- the year of a day up to 9999-12-31
year_end : (d : CivilDate) → IsReal d → day_number d < 7_304_850 → d.year ≤ 9999
year_end d r h =
    elim (cases_lt 9999 d.year) [
      | inr small ↦ small
      | inl large ↦
          let some : 1 ≤ day_of_year (pos d.year) d.month d.day = omega (arith, r.day) in
          let place = day_count-day_of_year (pos d.year) d.month d.day r.day in
          absurd (elim (cases_lt 10000 d.year) [
            | inl later ↦ omega (arith, place, some, day_count-later_year (pos 10000) (pos d.year) (above_start 10000) (omega (arith, signed_arith)), day_count-end)
            | inr now ↦
                let e : d.year ≡ 10000 = omega arith in
                let begins : day_count (pos d.year) 1 1 ≡ 7_304_850 = ap (λ y. day_count (pos y) 1 1) e ∙ day_count-end in
                omega (arith, place, some, begins)
          ])
    ]

pub on_calendar : (d : CivilDate) → IsReal d → d.year ≤ 9999 → is_on_calendar d ≡ true
on_calendar d r h =
    and_from (is_between 1 9999 d.year && is_between 1 12 d.month) (is_between 1 (days_in_month (pos d.year) d.month) d.day)
    (and_from (is_between 1 9999 d.year) (is_between 1 12 d.month)
    (and_from (leb 1 d.year) (leb d.year 9999) (le-leb 1 d.year r.year) (le-leb d.year 9999 h))
    (and_from (leb 1 d.month) (leb d.month 12) (le-leb 1 d.month r.month) (le-leb d.month 12 r.month_end)))
    (and_from (leb 1 d.day) (leb d.day (days_in_month (pos d.year) d.month)) (le-leb 1 d.day r.day) (le-leb d.day (days_in_month (pos d.year) d.month) r.day_end))

pub real : (d : CivilDate) → is_on_calendar d ≡ true → IsReal d × (d.year ≤ 9999)
real d h =
    let parts = and_parts (is_between 1 9999 d.year && is_between 1 12 d.month) (is_between 1 (days_in_month (pos d.year) d.month) d.day) h in
    let front = and_parts (is_between 1 9999 d.year) (is_between 1 12 d.month) parts.0 in
    let years = and_parts (leb 1 d.year) (leb d.year 9999) front.0 in
    let months = and_parts (leb 1 d.month) (leb d.month 12) front.1 in
    let days = and_parts (leb 1 d.day) (leb d.day (days_in_month (pos d.year) d.month)) parts.1 in (
      record {
        year = leb-true 1 d.year years.0;
        month = leb-true 1 d.month months.0;
        month_end = leb-true d.month 12 months.1;
        day = leb-true 1 d.day days.0;
        day_end = leb-true d.day (days_in_month (pos d.year) d.month) days.1;
      },
      leb-true d.year 9999 years.1,
    )

civil : (d : CivilDate) → IsReal d → d.year ≤ 9999 → IsCivilDate (pos d.year) d.month d.day
civil d r h = ((omega (arith, signed_arith), omega (arith, signed_arith)), (r.month, r.month_end), (r.day, r.day_end))

-- the numbers of the calendar's days
pub day_number_bounds : (d : CivilDate) → is_on_calendar d ≡ true → (3_652_791 ≤ day_number d) × (day_number d < 7_304_850)
day_number_bounds d h =
    let r = real d h in
    let c = civil d r.0 r.1 in
    let some : 1 ≤ day_of_year (pos d.year) d.month d.day = omega (arith, r.0.day) in
    let place = day_count-day_of_year (pos d.year) d.month d.day r.0.day in
    let from : 3_652_791 ≤ day_count (pos d.year) 1 1 =
    elim (cases_lt 1 d.year) [
      | inl later ↦ omega (arith, day_count-later_year (pos 1) (pos d.year) (above_start 1) (omega (arith, signed_arith)), day_number-start)
      | inr now ↦
          let e : d.year ≡ 1 = omega (arith, r.0.year) in
          omega (arith, ap (λ y. day_count (pos y) 1 1) e, day_number-start)
    ] in
    (omega (arith, place, some, from), omega (arith, (day_count_bounds (pos d.year) d.month d.day c).1))

-- ---- a day and its number give each other

pub number_of_date : (n : ℕ) → first_day ≤ n → day_number (date_of n) ≡ n
number_of_date n h = omega (arith, (days_later_is (n - 3_652_791)).1)

pub date_of_real : (n : ℕ) → first_day ≤ n → n < end_day → is_on_calendar (date_of n) ≡ true
date_of_real n h k =
    let is = number_of_date n h in
    let r = (days_later_is (n - 3_652_791)).0 in
    on_calendar (date_of n) r (year_end (date_of n) r (omega (arith, is)))

date_at : (d : CivilDate) → IsReal d → d.year ≤ 9999 → Date
date_at d r h = let c = civil d r h in record { year = pos d.year; month = d.month; day = d.day; year_in = c.0; month_in = c.1; day_in = c.2 }

same_date : (a b : CivilDate) → is_on_calendar a ≡ true → is_on_calendar b ≡ true → day_number a ≡ day_number b → a ≡ b
unfolding date_at days_from_civil
same_date a b h k e =
    let r = real a h in
    let s = real b k in
    let parts = epoch_day_injective (date_at a r.0 r.1) (date_at b s.0 s.1) (rw e refl) in
    let year : a.year ≡ b.year = omega (arith, signed_arith, parts.0) in
    rw (year, parts.1, parts.2) refl

pub date_of_number : (d : CivilDate) → is_on_calendar d ≡ true → date_of (day_number d) ≡ d
date_of_number d h =
    let b = day_number_bounds d h in
    same_date (date_of (day_number d)) d (date_of_real (day_number d) b.0 b.1) h (number_of_date (day_number d) b.0)

-- ---- months

-- a month begins after the days of the one before
pub month_start-next : (m : ℕ) → month_start m + 28 ≤ month_start (m + 1)
month_start-next m =
    let long = days_in_month_bounds (pos (m / 12)) (m % 12 + 1) in
    let whole = day_count-next_month (pos (m / 12)) (m % 12 + 1) (omega arith) in
    elim (cases_lt (m % 12) 11) [
      | inl within ↦
          let year : (m + 1) / 12 ≡ m / 12 = omega arith in
          let month : (m + 1) % 12 + 1 ≡ m % 12 + 1 + 1 = omega arith in
          rw (year, month) (omega (arith, whole, long.1))
      | inr last ↦
          let year : (m + 1) / 12 ≡ m / 12 + 1 = omega arith in
          let month : (m + 1) % 12 + 1 ≡ 1 = omega arith in
          let here : m % 12 + 1 ≡ 12 = omega arith in
          let day = day_count-day (pos (m / 12)) 12 31 1 (omega arith) (omega arith) in
          rw (year, month, here) (omega (arith, december (m / 12), day))
    ]

pub month_start-later : (m k : ℕ) → month_start m + 28 * k ≤ month_start (m + k)
month_start-later m zero = let e : m + 0 ≡ m = omega arith in rw e (omega arith)
month_start-later m (suc k) =
    let e : m + suc k ≡ m + k + 1 = omega arith in
    rw e (omega (arith, month_start-later m k, month_start-next (m + k)))

pub month_start-lt : (m n : ℕ) → m < n → month_start m < month_start n
month_start-lt m n h = let e : m + (n - m) ≡ n = omega arith in omega (arith, rw e at (month_start-later m (n - m)))

pub month_start-le : (m n : ℕ) → m ≤ n → month_start m ≤ month_start n
month_start-le m n h = let e : m + (n - m) ≡ n = omega arith in omega (arith, rw e at (month_start-later m (n - m)))

pub month_start-end : month_start 120_000 ≡ 7_304_850
month_start-end = day_count-end

pub month_start-first : month_start 12 ≡ 3_652_791
month_start-first = day_number-start

-- ---- dates of `jiff`

-- its count of days from -9999-01-01 on
pub number_from_min : (y : ℤ) (m d n : ℕ) → days_from_civil y m d +ℤ pos 4_371_587 ≡ pos n → day_count y m d ≡ n + 366
number_from_min y m d n h = omega (arith, signed_arith, days_from_civil-day_count y m d, h)

pub number_from_bits : (y m d n : ℕ) → y < 2 ^ 15 → days_from_civil (to_z w16 y) m d +ℤ pos 4_371_587 ≡ pos n → n + 366 ≡ day_count (pos y) m d
number_from_bits y m d n small h = let e = to_z_pos w16 y small in sym (number_from_min (pos y) m d n (rw e at h))

pub year_from_count : (y : ℤ) (m d n : ℕ) → IsCivilDate y m d → day_count y m d ≡ n → first_day ≤ n → pos 1 ≤ℤ y
year_from_count y m d n c is from =
    by_lt_z y (pos 1)
    (λ early. let before = day_count-lt_year y m d (pos 1) 1 1 c (omega arith) early in absurd (omega (arith, before, day_number-start, is, from)))
    (λ late. late)

pub date_from_count : (y : ℤ) (m d n : ℕ) → IsCivilDate y m d → day_count y m d ≡ n → first_day ≤ n → n < end_day
    → record { year = unsigned_abs y; month = m; day = d } ≡ date_of n
date_from_count (pos y) m d n c is from to =
    let some = year_from_count (pos y) m d n c is from in
    let date : CivilDate = record { year = y; month = m; day = d } in
    let r : IsReal date = record { year = omega (arith, signed_arith, some); month = c.1.0; month_end = c.1.1; day = c.2.0; day_end = c.2.1 } in
    same_date date (date_of n) (on_calendar date r (omega (arith, signed_arith, c.0.1))) (date_of_real n from to) (is ∙ sym (number_of_date n from))
date_from_count (negsuc y) m d n c is from to =
    let some = year_from_count (negsuc y) m d n c is from in absurd (omega (arith, signed_arith, some))

pub same_parts : (a : CivilDate) (y m d : ℕ) → a.year ≡ y → a.month ≡ m → a.day ≡ d → a ≡ record { year = y; month = m; day = d }
same_parts a y m d e f g = rw (← e, ← f, ← g) refl
