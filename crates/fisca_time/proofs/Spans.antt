-- What holds of the spans that are periods.
use Rattle.std.proofs.Common.{◌≡◌, ℕ, Bool, suc, zero, ◌+◌, ◌*◌, ◌/◌, ◌%◌, ◌<◌, ◌≤◌, true, false, ◌&&◌, ◌||◌, length, map, Some, slice_get, arith, refl, ap, ◌∙◌, sym, IsTrue, ◌↔◌, inl, inr, ℤ, Ok, Err, Option, None, cond}
use Rattle.std.specs.List.{range_with_len}
use Rattle.std.specs.Cmp.{nat_cmp_is, ranks}
use Rattle.std.specs.Ordering.{nat_cmp, ordering_then, MatchOrdering}
use Rattle.std.specs.declared.cmp.Ordering.{Ordering}
use Rattle.std.specs.declared.cmp.Ordering.TheVariants.{Less, Equal, Greater}
use Rattle.std.proofs.Math.Nat.{mul-le-mul_right}
use Rattle.fisca_time.specs.Kept.{span_of, is_kept, is_key, span_of_key}
use Rattle.std.proofs.lemmas.Bool.{and_parts, cases_Bool, cases_lt, leb-true, eqb-true}
use Rattle.std.proofs.Math.Dec.{eqb, leb}
use Rattle.std.proofs.lemmas.List.FromFn.{length-map-range_with_len}
use Rattle.fisca_time.specs.Calendar.{first_day, end_day, date_of}
use Rattle.fisca_time.specs.Instant.{is_between}
use Rattle.fisca_time.specs.Period.{Span, eternity, months, days, is_period, is_eternal, unit_of, first_of, size_of, is_within, months_of, month_start, start_day, stop_day, days_of, month_of, month_at, year_at, day_at, subs, span_cmp, this_year_of, moved_by, unless_eternal, Overlaps}
use Rattle.fisca_time.specs.Steps.Period.{is_of_months}
use Rattle.fisca_time.specs.Unit.{months_in, is_month, is_year, rank, unit_ranked}
use Rattle.fisca_time.specs.declared.fault.TimeFault.TheVariants.{OutOfRange}
use Rattle.fisca_time.specs.declared.unit.Unit.{Unit}
use Rattle.fisca_time.specs.declared.unit.Unit.TheVariants.{Day, Month, Year, Eternity}
use Rattle.fisca_time.proofs.Days.{date_of_real, real, month_start-lt, month_start-le, month_start-end, month_start-first}

-- ---- parts of the test that a span is a period

pub record IsMonths (unit : Unit) (first size : ℕ) : Type 0 where
  pub counted : (is_month unit || is_year unit) ≡ true
  pub some : 1 ≤ size
  pub most : size ≤ 1200
  pub from : 12 ≤ first
  pub to : first + months_in unit * size ≤ 120_000
  pub months : 1 ≤ months_in unit * size

pub record IsDays (first size : ℕ) : Type 0 where
  pub some : 1 ≤ size
  pub most : size ≤ 1200
  pub from : 3_652_791 ≤ first
  pub to : first + size ≤ 7_304_850

unit_months : (u : Unit) → (is_month u || is_year u) ≡ true → 1 ≤ months_in u
unit_months Day h = cc
unit_months Month h = omega arith
unit_months Year h = omega arith
unit_months Eternity h = cc

product_some : (a b : ℕ) → 1 ≤ a → 1 ≤ b → 1 ≤ a * b
product_some a b h k = grind arith

pub months_parts : (unit : Unit) (first size : ℕ) → is_period (months unit first size) ≡ true → IsMonths unit first size
months_parts unit first size h =
    let parts = and_parts ((is_month unit || is_year unit) && is_between 1 1200 size) (is_within 12 120_000 first (months_in unit * size)) h in
    let front = and_parts (is_month unit || is_year unit) (is_between 1 1200 size) parts.0 in
    let sizes = and_parts (leb 1 size) (leb size 1200) front.1 in
    let places = and_parts (leb 12 first) (leb (first + months_in unit * size) 120_000) parts.1 in
    let one : 1 ≤ size = leb-true 1 size sizes.0 in
    record {
      counted = front.0;
      some = one;
      most = leb-true size 1200 sizes.1;
      from = leb-true 12 first places.0;
      to = leb-true (first + months_in unit * size) 120_000 places.1;
      months = product_some (months_in unit) size (unit_months unit front.0) one;
    }

pub days_parts : (first size : ℕ) → is_period (days first size) ≡ true → IsDays first size
days_parts first size h =
    let parts = and_parts (is_between 1 1200 size) (is_within first_day end_day first size) h in
    let sizes = and_parts (leb 1 size) (leb size 1200) parts.0 in
    let places = and_parts (leb first_day first) (leb (first + size) end_day) parts.1 in
    record {
      some = leb-true 1 size sizes.0;
      most = leb-true size 1200 sizes.1;
      from = leb-true first_day first places.0;
      to = leb-true (first + size) end_day places.1;
    }

-- ---- what is kept

pub kept_period : (unit : Unit) (first size : ℕ) → is_kept unit first size ≡ true → is_period (span_of unit first size) ≡ true
kept_period Day first size h = h
kept_period Month first size h = h
kept_period Year first size h = h
kept_period Eternity first size h = refl

kept_unit : (unit : Unit) (first size : ℕ) → unit_of (span_of unit first size) ≡ unit
kept_unit Day first size = refl
kept_unit Month first size = refl
kept_unit Year first size = refl
kept_unit Eternity first size = refl

kept_first : (unit : Unit) (first size : ℕ) → is_kept unit first size ≡ true → first_of (span_of unit first size) ≡ first
kept_first Day first size h = refl
kept_first Month first size h = refl
kept_first Year first size h = refl
kept_first Eternity first size h = sym (eqb-true first 0 (and_parts (eqb first 0) (eqb size 0) h).0)

kept_size : (unit : Unit) (first size : ℕ) → is_kept unit first size ≡ true → size_of (span_of unit first size) ≡ size
kept_size Day first size h = refl
kept_size Month first size h = refl
kept_size Year first size h = refl
kept_size Eternity first size h = sym (eqb-true size 0 (and_parts (eqb first 0) (eqb size 0) h).1)

-- what a period is that is kept so
pub record IsKept (own : Unit) (start count : ℕ) (p : Span) : Type 0 where
  pub period : is_period p ≡ true
  pub unit : unit_of p ≡ own
  pub first : first_of p ≡ start
  pub size : size_of p ≡ count

pub kept_is : (unit : Unit) (first size : ℕ) (p : Span) → is_kept unit first size ≡ true → span_of unit first size ≡ p → IsKept unit first size p
kept_is unit first size p h is =
    rw (← is) (record { period = kept_period unit first size h; unit = kept_unit unit first size; first = kept_first unit first size h; size = kept_size unit first size h })

-- ---- order

above-lt : (a b x y m : ℕ) → a < b → x < m → a * m + x < b * m + y
above-lt a b x y m h k = let le : (a + 1) * m ≤ b * m = mul-le-mul_right m (omega arith) in grind arith

-- numbers above others below m are ordered by the two
above_others : (a b x y m : ℕ) (r s : Ordering) → x < m → y < m → MatchOrdering r (a < b) (a ≡ b) (b < a) → MatchOrdering s (x < y) (x ≡ y) (y < x)
    → MatchOrdering (ordering_then r s) (a * m + x < b * m + y) (a * m + x ≡ b * m + y) (b * m + y < a * m + x)
above_others a b x y m Less s h k above below = above-lt a b x y m above h
above_others a b x y m Greater s h k above below = above-lt b a y x m above k
above_others a b x y m Equal Less h k above below = rw above (omega arith)
above_others a b x y m Equal Equal h k above below = rw (above, below) refl
above_others a b x y m Equal Greater h k above below = rw above (omega arith)

by_both : (a b x y m : ℕ) → x < m → y < m → nat_cmp (a * m + x) (b * m + y) ≡ ordering_then (nat_cmp a b) (nat_cmp x y)
by_both a b x y m h k = sym (nat_cmp_is (a * m + x) (b * m + y) (ordering_then (nat_cmp a b) (nat_cmp x y)) (above_others a b x y m (nat_cmp a b) (nat_cmp x y) h k (ranks a b) (ranks x y)))

then_assoc : (a b c : Ordering) → ordering_then (ordering_then a b) c ≡ ordering_then a (ordering_then b c)
then_assoc Less b c = refl
then_assoc Equal b c = refl
then_assoc Greater b c = refl

-- the parts of a key as one number give it back
key_made : (key : ℕ) → (key / 281_474_976_710_656 * 4_294_967_296 + key / 65_536 % 4_294_967_296) * 65_536 + key % 65_536 ≡ key
key_made key = omega arith

rank_within : (n : ℕ) → n ≤ 3 → rank (unit_ranked n) ≡ n
rank_within zero h = refl
rank_within (suc zero) h = refl
rank_within (suc (suc zero)) h = refl
rank_within (suc (suc (suc n))) h = omega arith

-- what the parts of the key of a period are
record IsKey (key : ℕ) (p : Span) : Type 0 where
  unit : rank (unit_of p) ≡ key / 281_474_976_710_656
  first : first_of p ≡ key / 65_536 % 4_294_967_296
  size : size_of p ≡ key % 65_536

key_is : (key : ℕ) (p : Span) → is_key key ≡ true → span_of_key key ≡ p → IsKey key p
key_is key p h is =
    let own = unit_ranked (key / 281_474_976_710_656) in
    let first = key / 65_536 % 4_294_967_296 in
    let size = key % 65_536 in
    let both = and_parts (leb (key / 281_474_976_710_656) 3) (is_kept own first size) h in
    let k : IsKept own first size p = kept_is own first size p both.1 is in
    record { unit = ap rank k.unit ∙ rank_within (key / 281_474_976_710_656) (leb-true (key / 281_474_976_710_656) 3 both.0); first = k.first; size = k.size }

-- the order of two periods is that of their keys
pub kept_order : (a b : ℕ) (p q : Span) → is_key a ≡ true → span_of_key a ≡ p → is_key b ≡ true → span_of_key b ≡ q → nat_cmp a b ≡ span_cmp p q
kept_order a b p q h is k same =
    let s : IsKey a p = key_is a p h is in
    let t : IsKey b q = key_is b q k same in
    let i = key_made a in
    let j = key_made b in
    let x = a / 281_474_976_710_656 in
    let y = b / 281_474_976_710_656 in
    let m = a / 65_536 % 4_294_967_296 in
    let n = b / 65_536 % 4_294_967_296 in
    let made : nat_cmp ((x * 4_294_967_296 + m) * 65_536 + a % 65_536) ((y * 4_294_967_296 + n) * 65_536 + b % 65_536) ≡ nat_cmp a b = ap (λ k. nat_cmp k ((y * 4_294_967_296 + n) * 65_536 + b % 65_536)) i ∙ ap (nat_cmp a) j in
    rw (s.unit, s.first, s.size, t.unit, t.first, t.size)
    (sym made
    ∙ by_both (x * 4_294_967_296 + m) (y * 4_294_967_296 + n) (a % 65_536) (b % 65_536) 65_536 (omega arith) (omega arith)
    ∙ ap (λ o. ordering_then o (nat_cmp (a % 65_536) (b % 65_536))) (by_both x y m n 4_294_967_296 (omega arith) (omega arith))
    ∙ then_assoc (nat_cmp x y) (nat_cmp m n) (nat_cmp (a % 65_536) (b % 65_536)))

-- ---- days

-- a period other than eternity has a day, and lies in the calendar
pub record IsSpread (p : Span) : Type 0 where
  pub from : 3_652_791 ≤ start_day p
  pub some : start_day p < stop_day p
  pub to : stop_day p ≤ 7_304_850

pub spread : (p : Span) → is_period p ≡ true → is_eternal p ≡ false → IsSpread p
spread eternity h e = cc
spread (months unit first size) h e =
    let k : IsMonths unit first size = months_parts unit first size h in
    record {
      from = omega (arith, month_start-le 12 first k.from, month_start-first);
      some = month_start-lt first (first + months_in unit * size) (omega (arith, k.months));
      to = omega (arith, month_start-le (first + months_in unit * size) 120_000 k.to, month_start-end);
    }
spread (days first size) h e =
    let k : IsDays first size = days_parts first size h in
    record { from = k.from; some = omega (arith, k.some); to = k.to }

pub start_le_stop : (p : Span) → is_period p ≡ true → start_day p ≤ stop_day p
start_le_stop p h =
    elim (cases_Bool (is_eternal p)) [
      | inl e ↦ neither p e
      | inr e ↦ let k : IsSpread p = spread p h e in omega (arith, k.some)
    ]
  where
    neither : (p : Span) → is_eternal p ≡ true → start_day p ≤ stop_day p
    neither eternity e = omega arith
    neither (months unit first size) e = cc
    neither (days first size) e = cc

-- ---- the month of the start

pub month_of_bounds : (p : Span) → is_period p ≡ true → is_eternal p ≡ false → (12 ≤ month_of p) × (month_of p < 120_000)
month_of_bounds eternity h e = cc
month_of_bounds (months unit first size) h e =
    let k : IsMonths unit first size = months_parts unit first size h in
    (k.from, omega (arith, k.to, k.months))
month_of_bounds (days first size) h e =
    let k : IsDays first size = days_parts first size h in
    let r = real (date_of first) (date_of_real first k.from (omega (arith, k.some, k.to))) in
    (omega (arith, r.0.year, r.1, r.0.month, r.0.month_end), omega (arith, r.0.year, r.1, r.0.month, r.0.month_end))

-- ---- subperiods

-- an element of a list that is made from consecutive numbers
slice_get-map-range_with_len : {X : Type 0} (f : ℕ → X) (a n i : ℕ) → i < n → slice_get (map f (range_with_len a n)) i ≡ Some (f (a + i))
slice_get-map-range_with_len f a zero i h = absurd (omega arith)
slice_get-map-range_with_len f a (suc n) zero h = let e : a ≡ a + 0 = omega arith in ap (λ m. Some (f m)) e
slice_get-map-range_with_len f a (suc n) (suc i) h =
    let e : a + 1 + i ≡ a + suc i = omega arith in
    slice_get-map-range_with_len f (a + 1) n i (omega arith) ∙ ap (λ m. Some (f m)) e

-- how many subperiods there are
pub length-days : (p : Span) → length (subs p Day) ≡ days_of p
length-days eternity = refl
length-days (months unit first size) = length-map-range_with_len day_at (month_start first) (days_of (months unit first size))
length-days (days first size) = length-map-range_with_len day_at first size ∙ sym (omega arith)

pub length-months : (p : Span) → length (subs p Month) ≡ months_of p
length-months eternity = refl
length-months (months unit first size) = length-map-range_with_len month_at first (months_in unit * size)
length-months (days first size) = refl

pub length-years : (first size : ℕ) → length (subs (months Year first size) Year) ≡ size
length-years first size = length-map-range_with_len year_at (first / 12) size

-- the day, month and year at place i
pub record IsDaySub (p : Span) (i : ℕ) : Type 0 where
  pub from : 3_652_791 ≤ start_day p + i
  pub to : start_day p + i < 7_304_850
  pub at : slice_get (subs p Day) i ≡ Some (day_at (start_day p + i))

pub day_sub : (p : Span) (i : ℕ) → is_period p ≡ true → i < length (subs p Day) → IsDaySub p i
day_sub eternity i h below = absurd (omega arith)
day_sub (months unit first size) i h below =
    let p : Span = months unit first size in
    let k : IsSpread p = spread p h refl in
    let short : i < days_of p = rw length-days at below in
    record {
      from = omega (arith, k.from);
      to = omega (arith, k.to, k.some, short);
      at = slice_get-map-range_with_len day_at (month_start first) (days_of p) i short;
    }
day_sub (days first size) i h below =
    let k : IsDays first size = days_parts first size h in
    let short : i < size = rw length-map-range_with_len at below in
    record {
      from = omega (arith, k.from);
      to = omega (arith, k.to, short);
      at = slice_get-map-range_with_len day_at first size i short;
    }

pub record IsMonthSub (p : Span) (i : ℕ) : Type 0 where
  pub from : 12 ≤ first_of p + i
  pub to : first_of p + i < 120_000
  pub at : slice_get (subs p Month) i ≡ Some (month_at (first_of p + i))

pub month_sub : (p : Span) (i : ℕ) → is_period p ≡ true → i < length (subs p Month) → IsMonthSub p i
month_sub eternity i h below = absurd (omega arith)
month_sub (months unit first size) i h below =
    let k : IsMonths unit first size = months_parts unit first size h in
    let short : i < months_in unit * size = rw length-map-range_with_len at below in
    record {
      from = omega (arith, k.from);
      to = omega (arith, k.to, short);
      at = slice_get-map-range_with_len month_at first (months_in unit * size) i short;
    }
month_sub (days first size) i h below = absurd (omega arith)

pub record IsYearSub (p : Span) (i : ℕ) : Type 0 where
  pub from : 1 ≤ first_of p / 12 + i
  pub to : first_of p / 12 + i < 10_000
  pub at : slice_get (subs p Year) i ≡ Some (year_at (first_of p / 12 + i))

-- there are subperiods by years of year periods alone
pub year_sub : (p : Span) (i : ℕ) → is_period p ≡ true → i < length (subs p Year) → IsYearSub p i
year_sub eternity i h below = absurd (omega arith)
year_sub (months Day first size) i h below = absurd (omega arith)
year_sub (months Month first size) i h below = absurd (omega arith)
year_sub (months Year first size) i h below =
    let k : IsMonths Year first size = months_parts Year first size h in
    let short : i < size = rw length-map-range_with_len at below in
    let to : first + 12 * size ≤ 120_000 = k.to in
    let from : 12 ≤ first = k.from in
    record { from = omega arith; to = omega arith; at = slice_get-map-range_with_len year_at (first / 12) size i short }
year_sub (months Eternity first size) i h below = absurd (omega arith)
year_sub (days first size) i h below = absurd (omega arith)

-- ---- moves

-- a move of the calendar year of the start
pub moved_year : (p q : Span) (k : ℤ) → Ok q ≡ this_year_of p → moved_by k (unit_of q) q ≡ unless_eternal p (moved_by k Year (year_at (month_of p / 12)))
moved_year p q k is =
    elim (cases_Bool (is_eternal p)) [
      | inl e ↦ let other : Ok q ≡ Err OutOfRange = rw e at is in cc
      | inr e ↦ let same : Ok q ≡ Ok (year_at (month_of p / 12)) = rw e at is in let year : q ≡ year_at (month_of p / 12) = cc in rw (e, year) refl
    ]

-- ---- overlaps

-- eternity overlaps every period
pub eternal_overlaps : (p q : Span) → is_eternal p ≡ true → is_period q ≡ true → Overlaps p q
eternal_overlaps p q e h =
    elim (cases_Bool (is_eternal q)) [
      | inl f ↦ (0, rw e tt, rw f tt)
      | inr f ↦ let k : IsSpread q = spread q h f in (start_day q, rw e tt, rw f (omega arith, k.some))
    ]

pub overlaps_eternal : (p q : Span) → is_eternal q ≡ true → is_period p ≡ true → Overlaps p q
overlaps_eternal p q e h = let both = eternal_overlaps q p e h in (both.0, both.2, both.1)

-- two other periods overlap where each starts before the other ends
pub days_meet : (p q : Span) → is_period p ≡ true → is_period q ≡ true → is_eternal p ≡ false → is_eternal q ≡ false
    → ((start_day p < stop_day q) × (start_day q < stop_day p)) ↔ Overlaps p q
days_meet p q h l e f = (near, apart)
  where
    near : (start_day p < stop_day q) × (start_day q < stop_day p) → Overlaps p q
    near both =
        let k : IsSpread p = spread p h e in
        let m : IsSpread q = spread q l f in
        elim (cases_lt (start_day p) (start_day q)) [
          | inl lt ↦ (start_day q, rw e (omega arith, both.1), rw f (omega arith, m.some))
          | inr le ↦ (start_day p, rw e (omega arith, k.some), rw f (le, both.0))
        ]

    apart : Overlaps p q → (start_day p < stop_day q) × (start_day q < stop_day p)
    apart both =
        let a : (start_day p ≤ both.0) × (both.0 < stop_day p) = rw e at both.1 in
        let b : (start_day q ≤ both.0) × (both.0 < stop_day q) = rw f at both.2 in
        (omega arith, omega arith)

-- months follow each other as their first days do
start_lt : (m n : ℕ) → month_start m < month_start n → m < n
start_lt m n h =
    elim (cases_lt m n) [
      | inl lt ↦ lt
      | inr le ↦ absurd (omega (arith, month_start-le n m le))
    ]

pub months_meet : (p q : Span) → is_period p ≡ true → is_period q ≡ true → is_of_months p ≡ true → is_of_months q ≡ true
    → ((first_of p < first_of q + months_of q) × (first_of q < first_of p + months_of p)) ↔ Overlaps p q
months_meet eternity q h l e f = cc
months_meet (days first size) q h l e f = cc
months_meet (months unit first size) eternity h l e f = cc
months_meet (months unit first size) (days other count) h l e f = cc
months_meet (months unit first size) (months other_unit other count) h l e f =
    let p : Span = months unit first size in
    let q : Span = months other_unit other count in
    let meet = days_meet p q h l refl refl in (
      λ both. meet.0 (month_start-lt first (other + months_in other_unit * count) both.0, month_start-lt other (first + months_in unit * size) both.1),
      λ both. let met = meet.1 both in (start_lt first (other + months_in other_unit * count) met.0, start_lt other (first + months_in unit * size) met.1),
    )

-- ---- what readers of a period tell

abbrev months_told : Span → Option (ℕ × ℕ)
months_told p = cond (is_of_months p) (Some (record { 0 = first_of p; 1 = first_of p + months_of p })) None

abbrev days_told : Span → Option (ℕ × ℕ)
days_told p = cond (is_eternal p) None (Some (record { 0 = start_day p; 1 = stop_day p }))

months_some : (p : Span) (o : Option (ℕ × ℕ)) (r : ℕ × ℕ) → o ≡ Some r → o ≡ months_told p → (is_of_months p ≡ true) × (r ≡ record { 0 = first_of p; 1 = first_of p + months_of p })
months_some p o r some is =
    elim (cases_Bool (is_of_months p)) [
      | inl e ↦ let told : o ≡ Some (record { 0 = first_of p; 1 = first_of p + months_of p }) = rw e at is in (e, cc)
      | inr e ↦ let other : o ≡ None = rw e at is in absurd (cc)
    ]

days_some : (p : Span) (o : Option (ℕ × ℕ)) (r : ℕ × ℕ) → o ≡ Some r → o ≡ days_told p → (is_eternal p ≡ false) × (r ≡ record { 0 = start_day p; 1 = stop_day p })
days_some p o r some is =
    elim (cases_Bool (is_eternal p)) [
      | inl e ↦ let other : o ≡ None = rw e at is in absurd (cc)
      | inr e ↦ let told : o ≡ Some (record { 0 = start_day p; 1 = stop_day p }) = rw e at is in (e, cc)
    ]

pub eternal_from_days : (p : Span) (o : Option (ℕ × ℕ)) → o ≡ None → o ≡ days_told p → is_eternal p ≡ true
eternal_from_days p o none is =
    elim (cases_Bool (is_eternal p)) [ inl e ↦ e | inr e ↦ let other : o ≡ Some (record { 0 = start_day p; 1 = stop_day p }) = rw e at is in absurd (cc) ]

pub months_answer : (p q : Span) (o u : Option (ℕ × ℕ)) (r s : ℕ × ℕ) (b : Bool) → is_period p ≡ true → is_period q ≡ true → o ≡ Some r → o ≡ months_told p → u ≡ Some s → u ≡ months_told q
    → IsTrue b ↔ ((r.0 < s.1) × (s.0 < r.1)) → IsTrue b ↔ Overlaps p q
months_answer p q o u r s b h l or op us uq test =
    let ours = months_some p o r or op in
    let theirs = months_some q u s us uq in
    let meet = months_meet p q h l ours.0 theirs.0 in
    let told = rw (ours.1, theirs.1) at test in
    (λ t. meet.0 (told.0 t), λ both. told.1 (meet.1 both))

pub days_answer : (p q : Span) (o u : Option (ℕ × ℕ)) (r s : ℕ × ℕ) (b : Bool) → is_period p ≡ true → is_period q ≡ true → o ≡ Some r → o ≡ days_told p → u ≡ Some s → u ≡ days_told q
    → IsTrue b ↔ ((r.0 < s.1) × (s.0 < r.1)) → IsTrue b ↔ Overlaps p q
days_answer p q o u r s b h l or op us uq test =
    let ours = days_some p o r or op in
    let theirs = days_some q u s us uq in
    let meet = days_meet p q h l ours.0 theirs.0 in
    let told = rw (ours.1, theirs.1) at test in
    (λ t. meet.0 (told.0 t), λ both. told.1 (meet.1 both))
