-- Inputs that have a key in common share a day.
use Rattle.std.proofs.Common.{◌≡◌, true≢false, length, ℕ, zero, suc, ◌+◌, ◌*◌, ◌/◌, ◌<◌, ◌≤◌, List, [], ◌∷◌, map, Bool, true, false, Some, None, slice_get, refl, sym, ap, subst, ◌∙◌, arith, if◌then◌else◌, ◌||◌, ◌&&◌}
use Rattle.std.specs.Prelude.{◌==◌, nat_le, nat_lt}
use Rattle.std.specs.Cmp.{unsigned_ties}
use Rattle.std.specs.List.{list_any, range_with_len}
use Rattle.std.specs.Ordering.{eq_by_cmp, is_eq, nat_cmp, ordering_then}
use Rattle.std.specs.declared.cmp.Ordering.{Ordering}
use Rattle.std.specs.declared.cmp.Ordering.TheVariants.{Less, Equal, Greater}
use Rattle.std.proofs.lemmas.Bool.{and_parts, eqb-true, eq-eqb, leb-true, lt-ltb, or_right}
use Rattle.std.proofs.lemmas.List.FromFn.{length-map-range_with_len}
use Rattle.fisca_inputs.proofs.Numbered.{key_parts}
use Rattle.fisca_inputs.specs.Entries.{key, same_key}
use Rattle.fisca_inputs.specs.Rules.{Rule}
use Rattle.fisca_inputs.specs.Sharing.{own_key}
use Rattle.fisca_inputs.specs.Steps.Sharing.{parts_of}
use Rattle.fisca_inputs.specs.declared.given.Given.{Given}
use Rattle.fisca_model.specs.declared.key.Key.{Key}
use Rattle.fisca_model.specs.Periods.{fits, is_eternity, key_period}
use Rattle.fisca_num.specs.Number.{Number}
use Rattle.fisca_slots.proofs.Both.{Moving, keys_of}
use Rattle.fisca_slots.proofs.Placed.{Apart, across}
use Rattle.fisca_slots.proofs.Shared.{CanShare, Disjoint, Each, Pairwise}
use Rattle.fisca_slots.proofs.Steps.{CanPart, most_parts}
use Rattle.fisca_inputs.specs.Overlaps.{shares_day, starts_before}
use Rattle.fisca_time.proofs.Days.{month_start-lt, month_start-le, month_start-end}
use Rattle.fisca_time.specs.Calendar.{first_day, end_day}
use Rattle.fisca_time.specs.Instant.{is_between}
use Rattle.fisca_time.specs.Period.{Span, eternity, months, days, is_period, is_within, is_eternal, unit_of, first_of, size_of, start_day, stop_day, month_start, days_of, day_at, month_at, year_at, subs, span_cmp}
use Rattle.fisca_time.specs.Unit.{months_in, is_month, is_year, rank}
use Rattle.fisca_time.specs.declared.unit.Unit.{Unit}
use Rattle.fisca_time.specs.declared.unit.Unit.TheVariants.{Day, Month, Year, Eternity}

-- Periods

-- the day after a day, month or year that begins with this day or month
abbrev pub end_at : Unit → ℕ → ℕ
end_at Day first = first + 1
end_at Month first = month_start (first + 1)
end_at Year first = month_start (first + 12)
end_at Eternity first = 0

-- it ends in the period
pub record EndsIn (unit : Unit) (first : ℕ) (p : Span) : Type 0 where
  pub after : start_day p < end_at unit first
  pub within : end_at unit first ≤ stop_day p

pub both_equal : (a b : Ordering) → is_eq (ordering_then a b) ≡ true → (is_eq a ≡ true) × (is_eq b ≡ true)
both_equal Less b h = cc
both_equal Equal b h = (refl, h)
both_equal Greater b h = cc

-- equal periods begin with the same
pub same_first : (p q : Span) → eq_by_cmp span_cmp p q ≡ true → first_of p ≡ first_of q
same_first p q h =
    let later =
    both_equal (nat_cmp (rank (unit_of p)) (rank (unit_of q))) (ordering_then (nat_cmp (first_of p) (first_of q)) (nat_cmp (size_of p) (size_of q))) h in
    let start = both_equal (nat_cmp (first_of p) (first_of q)) (nat_cmp (size_of p) (size_of q)) later.1 in
    eqb-true (first_of p) (first_of q) (unsigned_ties (first_of p) (first_of q) ∙ start.0)

-- of which number in a row it is made
record IsMade (make : ℕ → Span) (low count : ℕ) (k : Span) : Type 0 where
  place : ℕ
  from : low ≤ place
  to : place < low + count
  first : first_of k ≡ first_of (make place)

made_in : (make : ℕ → Span) (low count : ℕ) (k : Span) → list_any (eq_by_cmp span_cmp k) (map make (range_with_len low count)) ≡ true → IsMade make low count k
made_in make low zero k h = cc
made_in make low (suc count) k h = by (eq_by_cmp span_cmp k (make low)) refl h (made_in make (low + 1) count k)
  where
    by : (b : Bool) → eq_by_cmp span_cmp k (make low) ≡ b → (b || list_any (eq_by_cmp span_cmp k) (map make (range_with_len (low + 1) count))) ≡ true
        → (list_any (eq_by_cmp span_cmp k) (map make (range_with_len (low + 1) count)) ≡ true → IsMade make (low + 1) count k) → IsMade make low (suc count) k
    by true same e later = record { place = low; from = omega arith; to = omega arith; first = same_first k (make low) same }
    by false other e later =
        let more = later e in
        let from = more.from in
        let to = more.to in
        record { place = more.place; from = omega (arith, from); to = omega (arith, to); first = more.first }

by_first : (unit : Unit) (f g : ℕ) (p : Span) → f ≡ g → EndsIn unit g p → EndsIn unit f p
by_first unit f g p same ends = subst (λ n. EndsIn unit n p) (sym same) ends

-- a part ends in its period
day_ends : (p k : Span) → subs p Day ≡ map day_at (range_with_len (start_day p) (days_of p)) → list_any (eq_by_cmp span_cmp k) (subs p Day) ≡ true
    → EndsIn Day (first_of k) p
day_ends p k is h =
    let made = made_in day_at (start_day p) (days_of p) k (ap (list_any (eq_by_cmp span_cmp k)) (sym is) ∙ h) in
    let from = made.from in
    let to = made.to in
    by_first Day (first_of k) made.place p made.first (record { after = omega (arith, from); within = omega (arith, to) })

month_ends : (unit : Unit) (first size : ℕ) (k : Span) → list_any (eq_by_cmp span_cmp k) (map month_at (range_with_len first (months_in unit * size))) ≡ true
    → EndsIn Month (first_of k) (months unit first size)
month_ends unit first size k h =
    let made = made_in month_at first (months_in unit * size) k h in
    let from = made.from in
    let to = made.to in
    by_first Month (first_of k) made.place (months unit first size) made.first (record {
      after = month_start-lt first (made.place + 1) (omega (arith, from));
      within = month_start-le (made.place + 1) (first + months_in unit * size) (omega (arith, to));
    })

year_ends : (first size : ℕ) (k : Span) → list_any (eq_by_cmp span_cmp k) (map year_at (range_with_len (first / 12) size)) ≡ true
    → EndsIn Year (first_of k) (months Year first size)
year_ends first size k h =
    let made = made_in year_at (first / 12) size k h in
    let from = made.from in
    let to = made.to in
    by_first Year (first_of k) (12 * made.place) (months Year first size) made.first (record {
      after = month_start-lt first (12 * made.place + 12) (omega (arith, from));
      within = month_start-le (12 * made.place + 12) (first + 12 * size) (omega (arith, to));
    })

part_ends : (unit : Unit) (p k : Span) → list_any (eq_by_cmp span_cmp k) (subs p unit) ≡ true → EndsIn unit (first_of k) p
part_ends unit eternity k h = cc
part_ends Day (months own first size) k h = day_ends (months own first size) k refl h
part_ends Month (months own first size) k h = month_ends own first size k h
part_ends Year (months Day first size) k h = cc
part_ends Year (months Month first size) k h = cc
part_ends Year (months Year first size) k h = year_ends first size k h
part_ends Year (months Eternity first size) k h = cc
part_ends Eternity (months own first size) k h = cc
part_ends Day (days first size) k h =
    let made = made_in day_at first size k h in
    let from = made.from in
    let to = made.to in
    by_first Day (first_of k) made.place (days first size) made.first (record { after = omega (arith, from); within = omega (arith, to) })
part_ends Month (days first size) k h = cc
part_ends Year (days first size) k h = cc
part_ends Eternity (days first size) k h = cc

-- and a period that is one unit in itself
own_ends : (unit : Unit) (p : Span) → is_period p ≡ true → is_eternity unit ≡ false → fits unit p ≡ true → EndsIn unit (first_of (key_period unit p)) p
own_ends Day eternity h other own = cc
own_ends Day (months Day first size) h other own = cc
own_ends Day (months Month first size) h other own = cc
own_ends Day (months Year first size) h other own = cc
own_ends Day (months Eternity first size) h other own = cc
own_ends Day (days first size) h other own = let one : size ≡ 1 = eqb-true size 1 own in record { after = omega arith; within = omega (arith, one) }
own_ends Month eternity h other own = cc
own_ends Month (months Day first size) h other own = cc
own_ends Month (months Month first size) h other own =
    let one : size ≡ 1 = eqb-true size 1 own in
    record { after = month_start-lt first (first + 1) (omega arith); within = month_start-le (first + 1) (first + 1 * size) (omega (arith, one)) }
own_ends Month (months Year first size) h other own = cc
own_ends Month (months Eternity first size) h other own = cc
own_ends Month (days first size) h other own = cc
own_ends Year eternity h other own = cc
own_ends Year (months Day first size) h other own = cc
own_ends Year (months Month first size) h other own = cc
own_ends Year (months Year first size) h other own =
    let one : size ≡ 1 = eqb-true size 1 own in
    record { after = month_start-lt first (first + 12) (omega arith); within = month_start-le (first + 12) (first + 12 * size) (omega (arith, one)) }
own_ends Year (months Eternity first size) h other own = cc
own_ends Year (days first size) h other own = cc
own_ends Eternity p h other own = cc

before_end : (p q : Span) → start_day p < stop_day q → starts_before p q ≡ true
before_end p q h =
    or_right (is_eternal p) (is_eternal q || nat_lt (start_day p) (stop_day q))
    (or_right (is_eternal q) (nat_lt (start_day p) (stop_day q)) (lt-ltb (start_day p) (stop_day q) h))

-- two periods in which the same ends share a day
common_day : (unit : Unit) (first : ℕ) (p q : Span) → EndsIn unit first p → EndsIn unit first q → shares_day p q ≡ true
common_day unit first p q one two =
    let a = one.after in
    let b = one.within in
    let c = two.after in
    let d = two.within in
    rw (
      before_end p p (omega (arith, a, b)),
      before_end q q (omega (arith, c, d)),
      before_end p q (omega (arith, a, d)),
      before_end q p
          (omega (arith, c, b)),
    ) refl

-- Keys

pub record IsKeyOf (unit : Unit) (g : Given) (q : Key) : Type 0 where
  pub variable : q.variable ≡ g.variable
  pub member : q.member ≡ g.member
  pub ends : EndsIn unit (first_of q.period) g.period

pub in_parts : (q : Key) (x m : ℕ) (ps : List Span) → list_any (same_key q) (map (λ p. key x m p) ps) ≡ true
    → (q.variable ≡ x) × (q.member ≡ m) × (list_any (eq_by_cmp span_cmp q.period) ps ≡ true)
in_parts q x m [] h = cc
in_parts q x m (p ∷ ps) h = by (same_key q (key x m p)) refl h (in_parts q x m ps)
  where
    by : (b : Bool) → same_key q (key x m p) ≡ b → (b || list_any (same_key q) (map (λ p. key x m p) ps)) ≡ true
        → (list_any (same_key q) (map (λ p. key x m p) ps) ≡ true → (q.variable ≡ x) × (q.member ≡ m) × (list_any (eq_by_cmp span_cmp q.period) ps ≡ true))
        → (q.variable ≡ x) × (q.member ≡ m) × ((eq_by_cmp span_cmp q.period p || list_any (eq_by_cmp span_cmp q.period) ps) ≡ true)
    by true same e later = let parts = key_parts q (key x m p) same in (parts.0, parts.1, ap (λ b. b || list_any (eq_by_cmp span_cmp q.period) ps) parts.2)
    by false other e later = let more = later e in (more.0, more.1, or_right (eq_by_cmp span_cmp q.period p) (list_any (eq_by_cmp span_cmp q.period) ps) more.2)

pub part_key : (r : Rule) (g : Given) (q : Key) → list_any (same_key q) (parts_of r g) ≡ true → IsKeyOf r.unit g q
part_key r g q h =
    let parts = in_parts q g.variable g.member (subs g.period r.unit) h in
    record { variable = parts.0; member = parts.1; ends = part_ends r.unit g.period q.period parts.2 }

pub any_key : (r : Rule) (g : Given) (q : Key) → is_period g.period ≡ true → is_eternity r.unit ≡ false → list_any (same_key q) (keys_of r g) ≡ true
    → IsKeyOf r.unit g q
any_key r g q period other h = by (fits r.unit g.period) refl h
  where
    one : (b : Bool) → same_key q (own_key r g) ≡ b → (b || false) ≡ true → fits r.unit g.period ≡ true → IsKeyOf r.unit g q
    one true same e own =
        let parts = key_parts q (own_key r g) same in
        record {
          variable = parts.0;
          member = parts.1;
          ends = by_first r.unit (first_of q.period) (first_of (key_period r.unit g.period)) g.period (same_first q.period (key_period r.unit g.period) parts.2)
              (own_ends r.unit g.period period other own);
        }
    one false different e own = cc

    by : (b : Bool) → fits r.unit g.period ≡ b → list_any (same_key q) (if b then own_key r g ∷ [] else parts_of r g) ≡ true → IsKeyOf r.unit g q
    by true own e = one (same_key q (own_key r g)) refl e own
    by false own e = part_key r g q e

pub key_variable : (r : Rule) (g : Given) (q : Key) → list_any (same_key q) (keys_of r g) ≡ true → q.variable ≡ g.variable
key_variable r g q h = by (fits r.unit g.period) h
  where
    one : (b : Bool) → same_key q (own_key r g) ≡ b → (b || false) ≡ true → q.variable ≡ g.variable
    one true same e = (key_parts q (own_key r g) same).0
    one false different e = cc

    by : (b : Bool) → list_any (same_key q) (if b then own_key r g ∷ [] else parts_of r g) ≡ true → q.variable ≡ g.variable
    by true e = one (same_key q (own_key r g)) refl e
    by false e = (part_key r g q e).variable

not_eternal : (unit : Unit) (p : Span) → fits unit p ≡ false → is_eternity unit ≡ false
not_eternal Day p h = refl
not_eternal Month p h = refl
not_eternal Year p h = refl
not_eternal Eternity p h = cc

pub meets_common : (unit : Unit) (t u : Moving) (q : Key) → IsKeyOf unit t.given q → IsKeyOf unit u.given q → across t u ≡ true
meets_common unit t u q one two =
    rw (eq-eqb t.given.variable u.given.variable (sym one.variable ∙ two.variable), eq-eqb t.given.member u.given.member (sym one.member ∙ two.member))
    (common_day unit (first_of q.period) t.given.period u.given.period one.ends two.ends)

-- How many there are

pub few_parts : (unit : Unit) (p : Span) → is_period p ≡ true → length (subs p unit) ≤ most_parts
few_parts unit eternity h = omega arith
few_parts Day (months own first size) h =
    let parts = and_parts ((is_month own || is_year own) && is_between 1 1200 size) (is_within 12 120_000 first (months_in own * size)) h in
    let places = and_parts (nat_le 12 first) (nat_le (first + months_in own * size) 120_000) parts.1 in
    let end = month_start-le (first + months_in own * size) 120_000 (leb-true (first + months_in own * size) 120_000 places.1) in
    omega (arith, end, month_start-end, length-map-range_with_len day_at (month_start first) (days_of (months own first size)))
few_parts Month (months own first size) h =
    let parts = and_parts ((is_month own || is_year own) && is_between 1 1200 size) (is_within 12 120_000 first (months_in own * size)) h in
    let places = and_parts (nat_le 12 first) (nat_le (first + months_in own * size) 120_000) parts.1 in
    omega (arith, leb-true (first + months_in own * size) 120_000 places.1, length-map-range_with_len month_at first (months_in own * size))
few_parts Year (months own first size) h =
    let parts = and_parts ((is_month own || is_year own) && is_between 1 1200 size) (is_within 12 120_000 first (months_in own * size)) h in
    let sizes = and_parts (is_month own || is_year own) (is_between 1 1200 size) parts.0 in
    let most = leb-true size 1200 (and_parts (nat_le 1 size) (nat_le size 1200) sizes.1).1 in
    by (is_year own) most (length-map-range_with_len year_at (first / 12) (if is_year own then size else 0))
  where
    by : (b : Bool) → size ≤ 1200 → length (subs (months own first size) Year) ≡ (if b then size else 0)
        → length (subs (months own first size) Year) ≤ most_parts
    by true most many = omega (arith, many, most)
    by false most many = omega (arith, many)
few_parts Eternity (months own first size) h = omega arith
few_parts Day (days first size) h =
    let parts = and_parts (is_between 1 1200 size) (is_within first_day end_day first size) h in
    omega (arith, leb-true size 1200 (and_parts (nat_le 1 size) (nat_le size 1200) parts.0).1, length-map-range_with_len day_at first size)
few_parts Month (days first size) h = omega arith
few_parts Year (days first size) h = omega arith
few_parts Eternity (days first size) h = omega arith

pub some_parts : (n : ℕ) → (n == 0) ≡ false → 0 < n
some_parts zero h = cc
some_parts (suc n) h = omega arith

module _ (rules : List Rule) where
  -- its period is one, and it can be shared
  pub record IsSound (t : Moving) : Type 0 where
    pub period : is_period t.given.period ≡ true
    pub shares : CanShare rules t

  disjoint : (t u : Moving) → IsSound t → Apart t u → Disjoint rules t u
  disjoint t u sound apart r s is at longer moved q inside there =
      let part : IsKeyOf s.unit u.given q = part_key s u.given q there in
      let variable : t.given.variable ≡ u.given.variable = sym (key_variable r t.given q inside) ∙ part.variable in
      let found : Some r ≡ Some s = sym is ∙ (ap (slice_get rules) variable ∙ at) in
      let same : r ≡ s = cc in
      let own : IsKeyOf s.unit t.given q =
      any_key s t.given q sound.period (not_eternal s.unit u.given.period longer) (subst (λ x. list_any (same_key q) (keys_of x t.given) ≡ true) same inside) in
      true≢false (sym (meets_common s.unit t u q own part) ∙ apart.days moved)

  each_disjoint : (t : Moving) (us : List Moving) → IsSound t → Each Apart t us → Each (Disjoint rules) t us
  each_disjoint t [] sound all = tt
  each_disjoint t (u ∷ us) sound all = (disjoint t u sound all.0, each_disjoint t us sound all.1)

  pub all_disjoint : (ts : List Moving) → Pairwise IsSound Apart ts → Pairwise (CanShare rules) (Disjoint rules) ts
  all_disjoint [] all = tt
  all_disjoint (t ∷ ts) all = (all.0.shares, (each_disjoint t ts all.0 all.1.0, all_disjoint ts all.1.1))

  -- what is given is so, and what an axis moves
  pub given_sound : (g : Given) → is_period g.period ≡ true → IsSound (record { given = g; value = None })
  given_sound g period = record { period = period; shares = λ r is. tt }

  pub moved_sound : (g : Given) (v : Number) → is_period g.period ≡ true → CanPart v → IsSound (record { given = g; value = Some v })
  moved_sound g v period parts =
      record {
        period = period;
        shares = λ r is some. parts (length (subs g.period r.unit)) (some_parts (length (subs g.period r.unit)) some)
            (few_parts r.unit g.period period);
      }
