-- Laws of periods.
use Rattle.std.proofs.Common.{◌≡◌, ℕ, zero, suc, ◌+◌, ◌/◌, ◌%◌, ◌<◌, ◌≤◌, min, true, ◌&&◌, ◌||◌, false, length, map, Some, None, slice_get, arith, refl, ap, sym, ◌∙◌, ◌↔◌, ◌⊎◌, inl, inr, ℤ, pos, negsuc, neg_ℤ, ◌+ℤ◌, Ok, Err}
use Rattle.std.specs.List.{range_with_len}
use Rattle.std.proofs.Math.Dec.{leb}
use Rattle.std.proofs.lemmas.Bool.{cases_lt, and_parts, and_from, cases_Bool, leb-true, le-leb}
use Rattle.std.proofs.lemmas.List.FromFn.{length-map-range_with_len}
use Rattle.jiff_core.specs.Calendar.{days_in_month}
use Rattle.jiff_core.proofs.CalendarLemmas.{days_in_month_bounds}
use Rattle.jiff_core.proofs.SignedLemmas.{signed_arith}
use Rattle.fisca_time.specs.Calendar.{date_of, day_in_month, day_number, month_number}
use Rattle.fisca_time.specs.Instant.{CivilDate, is_between, is_on_calendar}
use Rattle.fisca_time.specs.Period.{Span, eternity, months, days, is_period, is_eternal, is_in_calendar, if_in_calendar, first_of, month_start, start_day, stop_day, days_of, day_at, subs, Covers, moved_by, months_moved, days_moved, months_from, days_from, days_from_month, later_month, KeepsDay}
use Rattle.fisca_time.specs.Unit.{is_day, is_month, is_year}
use Rattle.fisca_time.specs.declared.fault.TimeFault.TheVariants.{OutOfRange}
use Rattle.fisca_time.specs.declared.unit.Unit.{Unit}
use Rattle.fisca_time.specs.declared.unit.Unit.TheVariants.{Day, Month, Year, Eternity}
use Rattle.fisca_time.proofs.Days.{IsReal, real, on_calendar, date_of_real, date_of_number, number_of_date}
use Rattle.fisca_time.proofs.Spans.{IsSpread, IsDaySub, IsDays, spread, day_sub, days_parts, length-days}

-- ---- days

day_at_same : (m n : ℕ) → Some (day_at m) ≡ Some (day_at n) → m ≡ n
day_at_same m n h = let e : day_at m ≡ day_at n = cc in ap first_of e

after_range : {X : Type 0} (f : ℕ → X) (a n i : ℕ) → n ≤ i → slice_get (map f (range_with_len a n)) i ≡ None
after_range f a zero zero h = refl
after_range f a zero (suc i) h = refl
after_range f a (suc n) zero h = absurd (omega arith)
after_range f a (suc n) (suc i) h = after_range f (a + 1) n i (omega arith)

after_days : (p : Span) (i : ℕ) → length (subs p Day) ≤ i → slice_get (subs p Day) i ≡ None
after_days eternity zero h = refl
after_days eternity (suc i) h = refl
after_days (months unit first size) i h = after_range day_at (month_start first) (days_of (months unit first size)) i (rw length-map-range_with_len at h)
after_days (days first size) i h = after_range day_at first size i (rw length-map-range_with_len at h)

-- what stands at a place of the days of a period
pub days_by_place : (p : Span) → is_period p ≡ true → is_eternal p ≡ false → (i day : ℕ) → (slice_get (subs p Day) i ≡ Some (day_at day)) ↔ ((day ≡ start_day p + i) × Covers p day)
days_by_place p h e i day = (there, back)
  where
    there : slice_get (subs p Day) i ≡ Some (day_at day) → (day ≡ start_day p + i) × Covers p day
    there is =
        let k : IsSpread p = spread p h e in
        elim (cases_lt i (length (subs p Day))) [
          | inl within ↦
              let s : IsDaySub p i = day_sub p i h within in
              let short : i < days_of p = rw length-days at within in
              let same : day ≡ start_day p + i = day_at_same day (start_day p + i) (sym is ∙ s.at) in
              (same, rw e (omega arith, omega (arith, k.some)))
          | inr after ↦ let none = after_days p i after in absurd (cc)
        ]

    back : (day ≡ start_day p + i) × Covers p day → slice_get (subs p Day) i ≡ Some (day_at day)
    back both =
        let k : IsSpread p = spread p h e in
        let covered : (start_day p ≤ day) × (day < stop_day p) = rw e at both.1 in
        let within : i < length (subs p Day) = rw length-days (omega (arith, both.0, k.some)) in
        let s : IsDaySub p i = day_sub p i h within in
        s.at ∙ ap (λ n. Some (day_at n)) (sym both.0)

-- ---- moves

in_span : (q p : Span) → if_in_calendar q ≡ Ok p → q ≡ p
in_span q p is =
    elim (cases_Bool (is_in_calendar q)) [
      | inl e ↦ let same : Ok q ≡ Ok p = rw e at is in cc
      | inr e ↦ let other : Err OutOfRange ≡ Ok p = rw e at is in absurd (cc)
    ]

days_back : (first size : ℕ) (k r : ℤ) (q : Span) → pos first +ℤ k ≡ r → is_in_calendar (days first size) ≡ true → days_from size r ≡ Ok q
    → moved_by (neg_ℤ k) Day q ≡ Ok (days first size)
days_back first size k (pos n) q e inside is =
    let home : pos n +ℤ neg_ℤ k ≡ pos first = omega (arith, signed_arith, e) in
    rw (← in_span (days n size) q is, home, inside) refl
days_back first size k (negsuc n) q e inside is = cc

month_back : (own : Unit) (first size : ℕ) (k r : ℤ) (q : Span) → later_month k Month first ≡ r → is_in_calendar (months own first size) ≡ true → months_from own size r ≡ Ok q
    → moved_by (neg_ℤ k) Month q ≡ Ok (months own first size)
month_back own first size k (pos n) q e inside is =
    let home : later_month (neg_ℤ k) Month n ≡ pos first = omega (arith, signed_arith, e) in
    rw (← in_span (months own n size) q is, home, inside) refl
month_back own first size k (negsuc n) q e inside is = cc

year_back : (own : Unit) (first size : ℕ) (k r : ℤ) (q : Span) → later_month k Year first ≡ r → is_in_calendar (months own first size) ≡ true → months_from own size r ≡ Ok q
    → moved_by (neg_ℤ k) Year q ≡ Ok (months own first size)
year_back own first size k (pos n) q e inside is =
    let home : later_month (neg_ℤ k) Year n ≡ pos first = omega (arith, signed_arith, e) in
    rw (← in_span (months own n size) q is, home, inside) refl
year_back own first size k (negsuc n) q e inside is = cc

months_home : (own unit : Unit) (first size : ℕ) (q : Span) (k : ℤ) → is_in_calendar (months own first size) ≡ true → months_moved k unit own first size ≡ Ok q
    → moved_by (neg_ℤ k) unit q ≡ Ok (months own first size)
months_home own Day first size q k inside is = cc
months_home own Month first size q k inside is = month_back own first size k (later_month k Month first) q refl inside is
months_home own Year first size q k inside is = year_back own first size k (later_month k Year first) q refl inside is
months_home own Eternity first size q k inside is = cc

-- a day of a month up to 9999-12, or its last one, is a day of the calendar in that month
record IsInMonth (x : CivilDate) (place : ℕ) : Type 0 where
  pub real : is_on_calendar x ≡ true
  pub month : month_number x ≡ place

in_month : (day month : ℕ) → 1 ≤ day → is_between 12 119_999 month ≡ true → IsInMonth (day_in_month day month) month
in_month day month some h =
    let parts = and_parts (leb 12 month) (leb month 119_999) h in
    let low : 12 ≤ month = leb-true 12 month parts.0 in
    let high : month ≤ 119_999 = leb-true month 119_999 parts.1 in
    let long = days_in_month_bounds (pos (month / 12)) (month % 12 + 1) in
    let r : IsReal (day_in_month day month) =
    record { year = omega arith; month = omega arith; month_end = omega arith; day = omega (arith, long.1); day_end = omega arith } in
    record { real = on_calendar (day_in_month day month) r (omega arith); month = omega arith }

-- a date is its day of its month
date_home : (d : CivilDate) → is_on_calendar d ≡ true → (day_in_month d.day (month_number d) ≡ d) × (is_between 12 119_999 (month_number d) ≡ true)
date_home d h =
    let r = real d h in
    let year : month_number d / 12 ≡ d.year = omega (arith, r.0.month, r.0.month_end) in
    let month : month_number d % 12 + 1 ≡ d.month = omega (arith, r.0.month, r.0.month_end) in
    let day : min d.day (days_in_month (pos d.year) d.month) ≡ d.day = omega (arith, r.0.day_end) in (
      rw (year, month, day) refl,
      and_from (leb 12 (month_number d)) (leb (month_number d) 119_999) (le-leb 12 (month_number d) (omega (arith, r.0.year, r.0.month))) (le-leb (month_number d) 119_999 (omega (arith, r.1, r.0.month_end))),
    )

-- where a day was moved to a month with its place kept
record IsMovedTo (size day m : ℕ) (q : Span) : Type 0 where
  pub month : month_number (date_of (first_of q)) ≡ m
  pub span : q ≡ days (first_of q) size

moved_to : (size day m : ℕ) (q : Span) → 1 ≤ day → days_from_month size day (pos m) ≡ Ok q → IsMovedTo size day m q
moved_to size day m q some is =
    elim (cases_Bool (is_between 12 119_999 m)) [
      | inl e ↦
          let placed : days_from size (pos (day_number (day_in_month day m))) ≡ Ok q = rw e at is in
          let x : IsInMonth (day_in_month day m) m = in_month day m some e in
          let same : days (day_number (day_in_month day m)) size ≡ q = in_span (days (day_number (day_in_month day m)) size) q placed in
          rw (← same) (record { month = ap month_number (date_of_number (day_in_month day m) x.real) ∙ x.month; span = refl })
      | inr e ↦ let other : Err OutOfRange ≡ Ok q = rw e at is in absurd (cc)
    ]

home_from : (first size : ℕ) → is_period (days first size) ≡ true → days_from_month size (date_of first).day (pos (month_number (date_of first))) ≡ Ok (days first size)
home_from first size h =
    let k : IsDays first size = days_parts first size h in
    let d = date_home (date_of first) (date_of_real first k.from (omega (arith, k.some, k.to))) in
    let last : days_from size (pos first) ≡ Ok (days first size) = rw (and_parts (is_between 1 1200 size) (is_in_calendar (days first size)) h).1 refl in
    rw d.1 (ap (λ x. days_from size (pos (day_number x))) d.0 ∙ ap (λ n. days_from size (pos n)) (number_of_date first k.from) ∙ last)

day_some : (first size : ℕ) → is_period (days first size) ≡ true → 1 ≤ (date_of first).day
day_some first size h =
    let k : IsDays first size = days_parts first size h in
    (real (date_of first) (date_of_real first k.from (omega (arith, k.some, k.to)))).0.day

day_by_month : (first size : ℕ) (k r : ℤ) (q : Span) → later_month k Month (month_number (date_of first)) ≡ r → is_period (days first size) ≡ true
    → days_from_month size (date_of first).day r ≡ Ok q → (date_of first).day ≡ (date_of (first_of q)).day → moved_by (neg_ℤ k) Month q ≡ Ok (days first size)
day_by_month first size k (pos m) q e h is kept =
    let x : IsMovedTo size (date_of first).day m q = moved_to size (date_of first).day m q (day_some first size h) is in
    let home : later_month (neg_ℤ k) Month m ≡ pos (month_number (date_of first)) = omega (arith, signed_arith, e) in
    rw x.span (rw (← kept, x.month, home) (home_from first size h))
day_by_month first size k (negsuc m) q e h is kept = cc

day_by_year : (first size : ℕ) (k r : ℤ) (q : Span) → later_month k Year (month_number (date_of first)) ≡ r → is_period (days first size) ≡ true
    → days_from_month size (date_of first).day r ≡ Ok q → (date_of first).day ≡ (date_of (first_of q)).day → moved_by (neg_ℤ k) Year q ≡ Ok (days first size)
day_by_year first size k (pos m) q e h is kept =
    let x : IsMovedTo size (date_of first).day m q = moved_to size (date_of first).day m q (day_some first size h) is in
    let home : later_month (neg_ℤ k) Year m ≡ pos (month_number (date_of first)) = omega (arith, signed_arith, e) in
    rw x.span (rw (← kept, x.month, home) (home_from first size h))
day_by_year first size k (negsuc m) q e h is kept = cc

days_home : (unit : Unit) (first size : ℕ) (q : Span) (k : ℤ) → is_period (days first size) ≡ true → days_moved k unit first size ≡ Ok q
    → (is_day unit ≡ true) ⊎ ((date_of first).day ≡ (date_of (first_of q)).day) → moved_by (neg_ℤ k) unit q ≡ Ok (days first size)
days_home Day first size q k h is kept =
    days_back first size k (pos first +ℤ k) q refl (and_parts (is_between 1 1200 size) (is_in_calendar (days first size)) h).1 is
days_home Month first size q k h is (inl day) = cc
days_home Month first size q k h is (inr kept) = day_by_month first size k (later_month k Month (month_number (date_of first))) q refl h is kept
days_home Year first size q k h is (inl day) = cc
days_home Year first size q k h is (inr kept) = day_by_year first size k (later_month k Year (month_number (date_of first))) q refl h is kept
days_home Eternity first size q k h is kept = cc

months_inside : (own : Unit) (first size : ℕ) → is_period (months own first size) ≡ true → is_in_calendar (months own first size) ≡ true
months_inside own first size h = (and_parts ((is_month own || is_year own) && is_between 1 1200 size) (is_in_calendar (months own first size)) h).1

pub moved_back : (p q : Span) (k : ℤ) (unit : Unit) → is_period p ≡ true → moved_by k unit p ≡ Ok q → KeepsDay unit p q → moved_by (neg_ℤ k) unit q ≡ Ok p
moved_back eternity q k unit h is kept = cc
moved_back (months own first size) q k unit h is kept = months_home own unit first size q k (months_inside own first size h) is
moved_back (days first size) q k unit h is kept = days_home unit first size q k h is kept
