-- The latest member of a list in order of time stands just before the first member that is after the instant.
use Rattle.std.proofs.Common.{◌≡◌, ℕ, zero, suc, ◌+◌, ◌-◌, ◌/◌, ◌<◌, ◌≤◌, Bool, true, false, not, List, [], ◌∷◌, ◌++◌, length, get_or, Some, None, refl, sym, ◌∙◌, ap, arith}
use Rattle.std.proofs.lemmas.List.{get_or_default}
use Rattle.std.specs.List.{slice_get}
use Rattle.std.proofs.lemmas.Cmp.{then_total, on_total, nat_cmp_total}
use Rattle.std.specs.Cmp.{IsTotalOrder}
use Rattle.std.specs.declared.cmp.Ordering.{Ordering}
use Rattle.std.specs.declared.cmp.Ordering.TheVariants.{Less, Equal, Greater}
use Rattle.std.specs.Ordering.{is_lt, is_le, ordering_reverse}
use Rattle.std.specs.List.Sorted.{IsPartitionedBy}
use Rattle.std.proofs.lemmas.Bool.{and_parts}
use Rattle.fisca_time.specs.Instant.{CivilDate, date_cmp}
use Rattle.fisca_scales.specs.Dates.{Dated}
use Rattle.fisca_scales.specs.Dates.{is_before, latest, is_in_order}
use Rattle.fisca_scales.specs.Steps.Dates.{put_in_time}

pub date_total : IsTotalOrder date_cmp
date_total = then_total (on_total (λ d. d.year) nat_cmp_total) (then_total (on_total (λ d. d.month) nat_cmp_total) (on_total (λ d. d.day) nat_cmp_total))

less_from_is_lt : (o : Ordering) → is_lt o ≡ true → o ≡ Less
less_from_is_lt Less h = refl
less_from_is_lt Equal h = cc
less_from_is_lt Greater h = cc

pub before-trans : (a b c : CivilDate) → is_before a b ≡ true → is_before b c ≡ true → is_before a c ≡ true
before-trans a b c p q = ap is_lt (date_total.trans a b c (less_from_is_lt _ p) (less_from_is_lt _ q))

le_from_reverse : (o : Ordering) → is_le o ≡ not (is_lt (ordering_reverse o))
le_from_reverse Less = refl
le_from_reverse Equal = refl
le_from_reverse Greater = refl

le-before : (a b : CivilDate) → is_le (date_cmp a b) ≡ not (is_before b a)
le-before a b = le_from_reverse (date_cmp a b) ∙ ap (λ o. not (is_lt o)) (sym (date_total.antisymm b a))

-- the member is not after the instant
abbrev pub is_reached : {V : Type 0} → CivilDate → Dated V → Bool
is_reached i d = is_le (date_cmp d.date i)

turn : (a b : Bool) → a ≡ not b → a ≡ true → b ≡ false
turn true true e h = cc
turn true false e h = refl
turn false b e h = cc

turn' : (a b : Bool) → a ≡ not b → a ≡ false → b ≡ true
turn' false true e h = refl
turn' false false e h = cc
turn' true b e h = cc

not_so : (b : Bool) → (b ≡ true → ⊥) → not b ≡ true
not_so true h = absurd (h refl)
not_so false h = refl

pub tail_in_order : {V : Type 0} (d : Dated V) (ds : List (Dated V)) → is_in_order (d ∷ ds) ≡ true → is_in_order ds ≡ true
tail_in_order d [] h = refl
tail_in_order d (e ∷ es) h = (and_parts (is_before d.date e.date) (is_in_order (e ∷ es)) h).1

-- the first member is before all others
pub first_before : {V : Type 0} (d : Dated V) (ds : List (Dated V)) → is_in_order (d ∷ ds) ≡ true → (j : ℕ) (x : Dated V) → j < length ds → is_before d.date (get_or ds j x).date ≡ true
first_before d [] h j x p = absurd (omega arith)
first_before d (e ∷ es) h zero x p = (and_parts (is_before d.date e.date) (is_in_order (e ∷ es)) h).0
first_before d (e ∷ es) h (suc j) x p =
    let both : (is_before d.date e.date ≡ true) × (is_in_order (e ∷ es) ≡ true) = and_parts (is_before d.date e.date) (is_in_order (e ∷ es)) h in
    before-trans d.date e.date (get_or es j x).date both.0 (first_before e es both.1 j x (omega arith))

-- no member that is reached comes after one that is not
pub reached-partitioned : {V : Type 0} (i : CivilDate) (ds : List (Dated V)) → is_in_order ds ≡ true → IsPartitionedBy (is_reached i) ds
reached-partitioned i [] h a b x p q r = absurd (omega arith)
reached-partitioned i (d ∷ ds) h zero zero x p q r = r
reached-partitioned i (d ∷ ds) h (suc a) zero x p q r = absurd (omega arith)
reached-partitioned i (d ∷ ds) h (suc a) (suc b) x p q r = reached-partitioned i ds (tail_in_order d ds h) a b x (omega arith) (omega arith) r
reached-partitioned i (d ∷ ds) h zero (suc b) x p q r =
    let below : is_before d.date (get_or ds b x).date ≡ true = first_before d ds h b x (omega arith) in
    let here : is_before i (get_or ds b x).date ≡ false = turn _ _ (le-before (get_or ds b x).date i) r in
    le-before d.date i ∙ not_so (is_before i d.date) (λ so. let after : is_before i (get_or ds b x).date ≡ true = before-trans i d.date (get_or ds b x).date so below in cc)

-- no member is reached
latest_none : {V : Type 0} (i : CivilDate) (ds : List (Dated V)) → ((k : ℕ) (x : Dated V) → k < length ds → is_reached i (get_or ds k x) ≡ false) → latest ds i ≡ None
latest_none i [] h = refl
latest_none i (d ∷ ds) h =
    let after : is_before i d.date ≡ true = turn' _ _ (le-before d.date i) (h 0 d (omega arith)) in
    rw after (latest_none i ds (λ k x p. h (suc k) x (omega arith)))

-- the members up to n are reached, and no others
latest_last : {V : Type 0} (i : CivilDate) (ds : List (Dated V)) (n : ℕ) → is_in_order ds ≡ true → n < length ds →
    ((k : ℕ) (x : Dated V) → k ≤ n → is_reached i (get_or ds k x) ≡ true) →
    ((k : ℕ) (x : Dated V) → n < k → k < length ds → is_reached i (get_or ds k x) ≡ false) → (x : Dated V) → latest ds i ≡ Some (get_or ds n x)
latest_last i [] n o p h f x = absurd (omega arith)
latest_last i (d ∷ ds) zero o p h f x =
    let here : is_before i d.date ≡ false = turn _ _ (le-before d.date i) (h 0 d (omega arith)) in
    rw (here, latest_none i ds (λ k y q. f (suc k) y (omega arith) (omega arith))) refl
latest_last i (d ∷ ds) (suc n) o p h f x =
    let here : is_before i d.date ≡ false = turn _ _ (le-before d.date i) (h 0 d (omega arith)) in
    let later_on : latest ds i ≡ Some (get_or ds n x) = latest_last i ds n (tail_in_order d ds o) (omega arith) (λ k y q. h (suc k) y (omega arith)) (λ k y q r. f (suc k) y (omega arith) (omega arith)) x in
    rw (here, later_on, first_before d ds o n x (omega arith)) refl

abbrev pub ReachedAt : {V : Type 0} → CivilDate → List (Dated V) → ℕ → Type 0
ReachedAt {V} i ds n = (x : Dated V) → is_reached i (get_or ds n x) ≡ true

abbrev pub NoneFrom : {V : Type 0} → CivilDate → List (Dated V) → ℕ → Type 0
NoneFrom {V} i ds n = (k : ℕ) (x : Dated V) → n ≤ k → k < length ds → is_reached i (get_or ds k x) ≡ false

not_true : (b : Bool) → (b ≡ true → ⊥) → b ≡ false
not_true true h = absurd (h refl)
not_true false h = refl

-- behind a member that is not reached, none is
pub none-from : {V : Type 0} (i : CivilDate) (ds : List (Dated V)) (n : ℕ) → is_in_order ds ≡ true → n < length ds → ((x : Dated V) → is_reached i (get_or ds n x) ≡ false) → NoneFrom i ds n
none-from i ds n o p h k x q r =
    not_true (is_reached i (get_or ds k x)) (λ so. let at : is_reached i (get_or ds n x) ≡ true = reached-partitioned i ds o n k x q r so in let no : is_reached i (get_or ds n x) ≡ false = h x in cc)

pub latest-none : {V : Type 0} (i : CivilDate) (ds : List (Dated V)) → NoneFrom i ds 0 → latest ds i ≡ None
latest-none i ds h = latest_none i ds (λ k x p. h k x (omega arith) p)

pub latest-at : {V : Type 0} (i : CivilDate) (ds : List (Dated V)) (n : ℕ) → is_in_order ds ≡ true → n < length ds → ReachedAt i ds n → NoneFrom i ds (n + 1) → (x : Dated V) → latest ds i ≡ Some (get_or ds n x)
latest-at i ds n o p h f x = latest_last i ds n o p (λ k y q. reached-partitioned i ds o k n y q p (h y)) (λ k y q r. f k y (omega arith) r) x

-- the member at a place, whatever stands past the end
member_at : {V : Type 0} (ds : List (Dated V)) (n : ℕ) (e : Dated V) → n < length ds → e ≡ get_or ds n e → (x : Dated V) → get_or ds n x ≡ e
member_at ds n e p at x = get_or_default ds n x e p ∙ sym at

-- the place is reached, and none is from the end of so many members on
abbrev pub IsBetween : {V : Type 0} → CivilDate → List (Dated V) → ℕ → ℕ → Type 0
IsBetween i ds place size = (0 < size) × (place + size ≤ length ds) × ReachedAt i ds place × NoneFrom i ds (place + size)

pub upper-half : {V : Type 0} (i : CivilDate) (ds : List (Dated V)) (place size step : ℕ) (e : Dated V) → IsBetween i ds place size → 1 < size → step ≡ size / 2 →
    e ≡ get_or ds (place + size / 2) e → is_reached i e ≡ true → IsBetween i ds (place + step) (size - size / 2)
upper-half i ds place size step e h some s at r =
    let inside : place + size / 2 < length ds = omega (arith, h.1) in
    let same : (place + step) + (size - size / 2) ≡ place + size = omega arith in
    let here : place + step ≡ place + size / 2 = omega arith in
    (omega arith, omega (arith, h.1), λ x. rw (here, member_at ds (place + size / 2) e inside at x) r, rw same h.3)

pub lower-half : {V : Type 0} (i : CivilDate) (ds : List (Dated V)) (place size step : ℕ) (e : Dated V) → is_in_order ds ≡ true → IsBetween i ds place size → 1 < size → step ≡ 0 →
    e ≡ get_or ds (place + size / 2) e → is_reached i e ≡ false → IsBetween i ds (place + step) (size - size / 2)
lower-half i ds place size step e o h some s at r =
    let inside : place + size / 2 < length ds = omega (arith, h.1) in
    let here : place + step ≡ place = omega arith in
    let none : NoneFrom i ds (place + size / 2) = none-from i ds (place + size / 2) o inside (λ x. rw (member_at ds (place + size / 2) e inside at x) r) in
    (omega arith, omega (arith, h.1), rw here h.2, λ k x p q. none k x (omega arith) q)

pub first-not : {V : Type 0} (i : CivilDate) (ds : List (Dated V)) (e : Dated V) → is_in_order ds ≡ true → 0 < length ds → e ≡ get_or ds 0 e → is_reached i e ≡ false → latest ds i ≡ None
first-not i ds e o p at r = latest-none i ds (none-from i ds 0 o p (λ x. rw (member_at ds 0 e p at x) r))

slice_get-at : {V : Type 0} (ds : List (Dated V)) (n : ℕ) (x : Dated V) → n < length ds → Some (get_or ds n x) ≡ slice_get ds n
slice_get-at [] n x p = absurd (omega arith)
slice_get-at (d ∷ ds) zero x p = refl
slice_get-at (d ∷ ds) (suc n) x p = slice_get-at ds n x (omega arith)

pub latest-between : {V : Type 0} (i : CivilDate) (ds : List (Dated V)) (place size : ℕ) (x : Dated V) → is_in_order ds ≡ true → IsBetween i ds place size → size ≤ 1 →
    (place < length ds) × (latest ds i ≡ slice_get ds place)
latest-between i ds place size x o h one =
    let inside : place < length ds = omega (arith, h.0, h.1) in
    let same : place + size ≡ place + 1 = omega (arith, h.0) in
    let none : NoneFrom i ds (place + 1) = rw same at h.3 in
    (inside, latest-at i ds place o inside h.2 none x ∙ slice_get-at ds place x inside)

-- behind the last member that is before it
greater_from_before : (a b : CivilDate) → is_before a b ≡ true → date_cmp b a ≡ Greater
greater_from_before a b h = date_total.antisymm b a ∙ ap ordering_reverse (less_from_is_lt (date_cmp a b) h)

-- each date of the list is before this one
abbrev pub IsBehind : {V : Type 0} → Dated V → List (Dated V) → Type 0
IsBehind {V} d ds = (k : ℕ) (e : Dated V) → k < length ds → is_before (get_or ds k e).date d.date ≡ true

pub put-behind : {V : Type 0} (d : Dated V) (ds : List (Dated V)) → IsBehind d ds → put_in_time d ds ≡ ds ++ d ∷ []
put-behind d [] h = refl
put-behind d (e ∷ es) h =
    let before : is_before e.date d.date ≡ true = h zero d (omega arith) in
    rw (greater_from_before e.date d.date before, put-behind d es (λ k x p. h (suc k) x (omega arith))) refl
