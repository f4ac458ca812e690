-- Entries at the places that numbers tell.
use Rattle.std.proofs.Common.{◌≡◌, ◌<◌, ◌≤◌, ◌+◌, ◌-◌, arith, ℕ, zero, suc, Bool, true, false, cond, List, [], ◌∷◌, ◌++◌, length, Option, Some, None, ⊎_elim, is_some, slice_get, slice_set, slice_index_or, refl, sym, ap, subst, ◌∙◌, if◌then◌else◌, ◌||◌}
use Rattle.std.specs.Prelude.{filter, ◌==◌, ◌&&◌, ◌/◌, ◌%◌}
use Rattle.std.specs.List.{IsDistinct, list_any}
use Rattle.std.specs.Map.{keys_of, lookup, set_value}
use Rattle.std.specs.Option.{unwrap_or}
use Rattle.std.specs.Ordering.{eq_by_cmp}
use Rattle.std.proofs.lemmas.Bool.{and_parts, cases_lt, eq-eqb, eqb-true, false≢true, or_parts}
use Rattle.std.proofs.lemmas.List.{get_or-set_same}
use Rattle.std.proofs.lemmas.List.Sums.{count_by-le-length, length-filter}
use Rattle.std.proofs.lemmas.Map.{keys-set_value}
use Rattle.std.proofs.lemmas.Map.Entries.{length-keys_of, lookup-filter-keys}
use Rattle.std.proofs.lemmas.Map.Keys.{IsDistinct-push, IsDistinct-tail}
use Rattle.std.proofs.lemmas.Map.Made.{IsDistinct-keys_filter}
use Rattle.std.proofs.lemmas.Option.{slice_get-get_or}
use Rattle.indexmap.specs.IndexMap.{set_value_at}
use Rattle.fisca_time.specs.Period.{span_cmp}
use Rattle.fisca_model.specs.contracts.key.KeyEq.TheImpl.Laws.{laws-law}
use Rattle.fisca_inputs.specs.Anew.{set_keys}
use Rattle.fisca_inputs.specs.Entries.{Entries, same_key, value_at}
use Rattle.fisca_inputs.specs.Steps.Entries.{has}
use Rattle.fisca_inputs.specs.Places.{AreNumbered, AreOccupied, AreOnce, Pages, StandsAt, number_at, number_in, number_of, numbered_from, page_key}
use Rattle.fisca_model.specs.declared.value.Value.{Value}
use Rattle.fisca_model.specs.declared.key.Key.{Key}
use Rattle.fisca_inputs.proofs.Anew.{set_nowhere, set_once}
use Rattle.fisca_inputs.proofs.Noted.{not_first, set_seen, set_there, stands}

-- Which keys have a value hangs on the keys alone.

pub has_keys : (es : Entries) (k : Key) → has es k ≡ list_any (same_key k) (keys_of es)
has_keys [] k = refl
has_keys (e ∷ es) k = by (same_key k e.0) (has_keys es k)
  where
    by : (b : Bool) → has es k ≡ list_any (same_key k) (keys_of es) → is_some (cond b (Some e.1) (value_at es k)) ≡ (b || list_any (same_key k) (keys_of es))
    by true rest = refl
    by false rest = rest

same_has : (es fs : Entries) → keys_of es ≡ keys_of fs → (k : Key) → has es k ≡ has fs k
same_has es fs same k = has_keys es k ∙ ap (list_any (same_key k)) same ∙ sym (has_keys fs k)

-- An entry at a place

pub stands_here : (es : Entries) (k : Key) (i : ℕ) (e : Key × Value) → i < length es → e ≡ slice_index_or es i e → same_key k e.0 ≡ true → StandsAt es k i
stands_here es k i e within is same = record { own = e.0; value = e.1; there = slice_get-get_or es i e within ∙ ap (λ x. Some x) (sym is); same = same }

-- the key of the entry stands there
key_stands : (es : Entries) (k : Key) (i : ℕ) (own : Key) (value : Value) → slice_get es i ≡ Some (own, value) → same_key k own ≡ true → stands k es i ≡ true
key_stands [] k i own value there same = cc
key_stands (e ∷ es) k zero own value there same = let own_entry : e ≡ (own, value) = cc in ap (λ (x : Key × Value). same_key k x.0) own_entry ∙ same
key_stands (e ∷ es) k (suc i) own value there same = key_stands es k i own value there same

pub value_stands : (es : Entries) (k : Key) (i : ℕ) (own : Key) (value : Value) → AreOnce es → slice_get es i ≡ Some (own, value) → same_key k own ≡ true → value_at es k ≡ Some value
value_stands [] k i own value once there same = cc
value_stands (e ∷ es) k zero own value once there same =
    let own_entry : e ≡ (own, value) = cc in
    ap (λ (x : Key × Value). cond (same_key k x.0) (Some x.1) (value_at es k)) own_entry ∙ ap (λ b. cond b (Some value) (value_at es k)) same
value_stands (e ∷ es) k (suc i) own value once there same =
    ap (λ b. cond b (Some e.1) (value_at es k)) (not_first k e es i once (key_stands es k i own value there same))
    ∙ value_stands es k i own value (IsDistinct-tail same_key e.0 (keys_of es) once) there same

pub value_here : (es : Entries) (k : Key) (i : ℕ) (e : Key × Value) → AreOnce es → StandsAt es k i → e ≡ slice_index_or es i e → i < length es → value_at es k ≡ Some e.1
value_here es k i e once stands is within =
    let same : Some (stands.own, stands.value) ≡ Some e = sym stands.there ∙ (slice_get-get_or es i e within ∙ ap (λ x. Some x) (sym is)) in
    let own : (stands.own, stands.value) ≡ e = cc in
    value_stands es k i stands.own stands.value once stands.there stands.same ∙ ap (λ (x : Key × Value). Some x.1) own

has_at : (es : Entries) (k : Key) (i : ℕ) (own : Key) (value : Value) → slice_get es i ≡ Some (own, value) → same_key k own ≡ true → has es k ≡ true
has_at [] k i own value there same = cc
has_at (e ∷ es) k zero own value there same =
    let own_entry : e ≡ (own, value) = cc in
    ap (λ (x : Key × Value). is_some (cond (same_key k x.0) (Some x.1) (value_at es k))) own_entry ∙ ap (λ b. is_some (cond b (Some value) (value_at es k))) same
has_at (e ∷ es) k (suc i) own value there same = by (same_key k e.0) (has_at es k i own value there same)
  where
    by : (b : Bool) → has es k ≡ true → is_some (cond b (Some e.1) (value_at es k)) ≡ true
    by true h = refl
    by false h = h

pub has_stands : (es : Entries) (k : Key) (i : ℕ) → StandsAt es k i → has es k ≡ true
has_stands es k i stands = has_at es k i stands.own stands.value stands.there stands.same

pub has_own : (es : Entries) (i : ℕ) (e : Key × Value) → i < length es → e ≡ slice_index_or es i e → has es e.0 ≡ true
has_own es i e within is = has_stands es e.0 i (stands_here es e.0 i e within is (laws-law.refl e.0))

-- the value of an entry is set at its place
set_at : (es : Entries) (x : Value) (i : ℕ) (e : Key × Value) → e ≡ slice_index_or es i e → slice_set es i (e.0, x) ≡ set_value_at es i x
set_at [] x i e is = refl
set_at (f ∷ es) x zero e is = ap (λ (y : Key × Value). (y.0, x) ∷ es) is
set_at (f ∷ es) x (suc i) e is = ap (λ fs. f ∷ fs) (set_at es x i e is)

module _ (es : Entries) (k : Key) (x : Value) (i : ℕ) (e : Key × Value) (once : AreOnce es) (found : StandsAt es k i) (is : e ≡ slice_index_or es i e) where
  set_so : slice_set es i (e.0, x) ≡ set_value (same_key k) es x
  set_so = set_at es x i e is ∙ set_there k x es i once (key_stands es k i found.own found.value found.there found.same)

  pub set_here : slice_set es i (e.0, x) ≡ set_keys (k ∷ []) x es
  set_here = set_so ∙ set_once k x es once

  same_keys : keys_of (slice_set es i (e.0, x)) ≡ keys_of es
  same_keys = ap keys_of set_so ∙ keys-set_value (same_key k) es x

  pub set_keeps_once : AreOnce (slice_set es i (e.0, x))
  set_keeps_once = subst (IsDistinct same_key) (sym same_keys) once

  pub set_keeps_occupied : (occupied : List Bool) → AreOccupied occupied es → AreOccupied occupied (slice_set es i (e.0, x))
  set_keeps_occupied occupied kept q there = kept q (sym (same_has (slice_set es i (e.0, x)) es same_keys q) ∙ there)

  pub set_keeps_numbers : (pages : Pages) → AreNumbered pages es → AreNumbered pages (slice_set es i (e.0, x))
  set_keeps_numbers pages numbered q = numbered q ∙ ap (λ ks. numbered_from 1 ks q) (sym same_keys)

none_of : {X : Type 0} (o : Option X) → is_some o ≡ false → o ≡ None
none_of None h = refl
none_of (Some x) h = cc

pub set_absent : (es : Entries) (k : Key) (x : Value) → has es k ≡ false → es ≡ set_keys (k ∷ []) x es
set_absent es k x none = sym (set_nowhere k x es (none_of (value_at es k) none))

-- The number of a key

pub no_number : (n : ℕ) (ks : List Key) (k : Key) → list_any (same_key k) ks ≡ false → numbered_from n ks k ≡ 0
no_number n [] k none = refl
no_number n (q ∷ ks) k none = by (same_key k q) none (no_number (suc n) ks k)
  where
    by : (b : Bool) → (b || list_any (same_key k) ks) ≡ false → (list_any (same_key k) ks ≡ false → numbered_from (suc n) ks k ≡ 0) → (if b then n else numbered_from (suc n) ks k) ≡ 0
    by true h rest = absurd (false≢true (sym h))
    by false h rest = rest h

pub some_number : (n : ℕ) (ks : List Key) (k : Key) → list_any (same_key k) ks ≡ true → n < numbered_from (suc n) ks k
some_number n [] k there = absurd (false≢true there)
some_number n (q ∷ ks) k there = by (same_key k q) there (some_number (suc n) ks k)
  where
    by : (b : Bool) → (b || list_any (same_key k) ks) ≡ true → (list_any (same_key k) ks ≡ true → suc n < numbered_from (suc (suc n)) ks k)
        → n < (if b then suc n else numbered_from (suc (suc n)) ks k)
    by true h rest = omega arith
    by false h rest = omega (arith, rest h)

pub number_within : (n : ℕ) (ks : List Key) (k : Key) → numbered_from (suc n) ks k ≤ n + length ks
number_within n [] k = omega arith
number_within n (q ∷ ks) k = by (same_key k q) (number_within (suc n) ks k)
  where
    by : (b : Bool) → numbered_from (suc (suc n)) ks k ≤ suc n + length ks → (if b then suc n else numbered_from (suc (suc n)) ks k) ≤ n + suc (length ks)
    by true rest = omega arith
    by false rest = omega (arith, rest)

-- one key more
pub numbered_behind : (n : ℕ) (ks : List Key) (own k : Key) → list_any (same_key own) ks ≡ false
    → numbered_from (suc n) (ks ++ own ∷ []) k ≡ (if same_key k own then suc (n + length ks) else numbered_from (suc n) ks k)
numbered_behind n [] own k free = ap (λ m. if same_key k own then suc m else 0) (omega arith)
numbered_behind n (q ∷ ks) own k free = by (same_key k q) refl (numbered_behind (suc n) ks own k (or_parts (same_key own q) (list_any (same_key own) ks) free).1)
  where
    apart : (b : Bool) → same_key k own ≡ b → same_key k q ≡ true → same_key k own ≡ false
    apart true e same = absurd (false≢true (sym (or_parts (same_key own q) (list_any (same_key own) ks) free).0 ∙ (sym (laws-law.congr k own q e) ∙ same)))
    apart false e same = e

    by : (b : Bool) → same_key k q ≡ b
        → numbered_from (suc (suc n)) (ks ++ own ∷ []) k ≡ (if same_key k own then suc (suc n + length ks) else numbered_from (suc (suc n)) ks k)
        → (if b then suc n else numbered_from (suc (suc n)) (ks ++ own ∷ []) k) ≡ (if same_key k own then suc (n + suc (length ks)) else (if b then suc n else numbered_from (suc (suc n)) ks k))
    by true same later = ap (λ b. if b then suc (n + suc (length ks)) else suc n) (sym (apart (same_key k own) refl same))
    by false other later = later ∙ ap (λ m. if same_key k own then suc m else numbered_from (suc (suc n)) ks k) (omega arith)

-- by its number a key is found
pub numbered_stands : (n : ℕ) (es : Entries) (k : Key) → has es k ≡ true → (i : ℕ) × (numbered_from n (keys_of es) k ≡ n + i) × StandsAt es k i
numbered_stands n [] k there = absurd (false≢true there)
numbered_stands n (e ∷ es) k there = by (same_key k e.0) refl there (numbered_stands (suc n) es k)
  where
    by : (b : Bool) → same_key k e.0 ≡ b → is_some (cond b (Some e.1) (value_at es k)) ≡ true
        → (has es k ≡ true → (i : ℕ) × (numbered_from (suc n) (keys_of es) k ≡ suc n + i) × StandsAt es k i)
        → (i : ℕ) × ((if b then n else numbered_from (suc n) (keys_of es) k) ≡ n + i) × StandsAt (e ∷ es) k i
    by true same h rest = (0, omega arith, record { own = e.0; value = e.1; there = refl; same = same })
    by false other h rest =
        let later = rest h in
        let s = later.2 in
        (suc later.0, omega (arith, later.1), record { own = s.own; value = s.value; there = s.there; same = s.same })

-- and an entry has the number of its place
pub stands_numbered : (n : ℕ) (es : Entries) (k : Key) (i : ℕ) (own : Key) (value : Value) → AreOnce es → slice_get es i ≡ Some (own, value) → same_key k own ≡ true
    → numbered_from n (keys_of es) k ≡ n + i
stands_numbered n [] k i own value once there same = cc
stands_numbered n (e ∷ es) k zero own value once there same =
    let own_entry : e ≡ (own, value) = cc in
    ap (λ (x : Key × Value). if same_key k x.0 then n else numbered_from (suc n) (keys_of es) k) own_entry
    ∙ (ap (λ b. if b then n else numbered_from (suc n) (keys_of es) k) same ∙ omega arith)
stands_numbered n (e ∷ es) k (suc i) own value once there same =
    ap (λ b. if b then n else numbered_from (suc n) (keys_of es) k) (not_first k e es i once (key_stands es k i own value there same))
    ∙ (stands_numbered (suc n) es k i own value (IsDistinct-tail same_key e.0 (keys_of es) once) there same ∙ omega arith)

-- Buckets of variables

pub key_parts : (q k : Key) → same_key q k ≡ true → (q.variable ≡ k.variable) × (q.member ≡ k.member) × (eq_by_cmp span_cmp q.period k.period ≡ true)
key_parts q k h =
    let one = and_parts (q.variable == k.variable) ((q.member == k.member) && eq_by_cmp span_cmp q.period k.period) h in
    let two = and_parts (q.member == k.member) (eq_by_cmp span_cmp q.period k.period) one.1 in
    (eqb-true q.variable k.variable one.0, eqb-true q.member k.member two.0, two.1)

-- a key has no entry where no variable of its bucket has one
pub bucket_free : (occupied : List Bool) (es : Entries) (k : Key) → AreOccupied occupied es → slice_index_or occupied (k.variable % 256) false ≡ false → has es k ≡ false
bucket_free occupied es k kept free = by (has es k) refl
  where
    by : (b : Bool) → has es k ≡ b → has es k ≡ false
    by true there = absurd (false≢true (sym free ∙ kept k there))
    by false none = none

still_occupied : (occupied : List Bool) (bucket other : ℕ) → slice_index_or occupied bucket false ≡ true → slice_index_or (slice_set occupied other true) bucket false ≡ true
still_occupied [] bucket other h = h
still_occupied (o ∷ occupied) zero zero h = refl
still_occupied (o ∷ occupied) zero (suc other) h = h
still_occupied (o ∷ occupied) (suc bucket) zero h = h
still_occupied (o ∷ occupied) (suc bucket) (suc other) h = still_occupied occupied bucket other h

-- One entry more

has_behind : (es : Entries) (key : Key) (x : Value) (k : Key) → has (es ++ (key, x) ∷ []) k ≡ (has es k || same_key k key)
has_behind [] key x k = by (same_key k key)
  where
    by : (b : Bool) → is_some (cond b (Some x) None) ≡ b
    by true = refl
    by false = refl
has_behind (e ∷ es) key x k = by (same_key k e.0) (has_behind es key x k)
  where
    by : (b : Bool) → has (es ++ (key, x) ∷ []) k ≡ (has es k || same_key k key)
        → is_some (cond b (Some e.1) (value_at (es ++ (key, x) ∷ []) k)) ≡ (is_some (cond b (Some e.1) (value_at es k)) || same_key k key)
    by true rest = refl
    by false rest = rest

keys_behind : (es : Entries) (k : Key) (x : Value) → keys_of (es ++ (k, x) ∷ []) ≡ keys_of es ++ k ∷ []
keys_behind [] k x = refl
keys_behind (e ∷ es) k x = ap (λ ks. e.0 ∷ ks) (keys_behind es k x)

module _ (es new : Entries) (key : Key) (x : Value) (free : has es key ≡ false) (is : new ≡ es ++ (key, x) ∷ []) where
  pub behind_once : AreOnce es → AreOnce new
  behind_once once =
      subst (IsDistinct same_key) (sym (ap keys_of is ∙ keys_behind es key x)) (IsDistinct-push laws-law (keys_of es) key once (sym (has_keys es key) ∙ free))

  pub behind_occupied : (occupied : List Bool) (bucket : ℕ) → bucket ≡ key.variable % 256 → bucket < length occupied → AreOccupied occupied es → AreOccupied (slice_set occupied bucket true) new
  behind_occupied occupied bucket own within kept k there = by (has es k) refl (same_key k key) refl (sym (ap (λ fs. has fs k) is ∙ has_behind es key x k) ∙ there)
    where
      by : (a : Bool) → has es k ≡ a → (b : Bool) → same_key k key ≡ b → (a || b) ≡ true → slice_index_or (slice_set occupied bucket true) (k.variable % 256) false ≡ true
      by true before b e h = still_occupied occupied (k.variable % 256) bucket (kept k before)
      by false none true same h =
          let at : bucket ≡ k.variable % 256 = own ∙ ap (λ v. v % 256) (sym (key_parts k key same).0) in
          subst (λ s. slice_index_or (slice_set occupied bucket true) s false ≡ true) at (get_or-set_same occupied bucket true false within)
      by false none false other h = absurd (false≢true h)

  pub behind_numbered : (old pages : Pages) (number : ℕ) → number ≡ suc (length es) → AreNumbered old es
      → ((k : Key) → number_of pages k ≡ (if same_key k key then number else number_of old k)) → AreNumbered pages new
  behind_numbered old pages number next numbered put k = put k ∙ by (same_key k key) ∙ sym found
    where
      found : numbered_from 1 (keys_of new) k ≡ (if same_key k key then suc (0 + length (keys_of es)) else numbered_from 1 (keys_of es) k)
      found = ap (λ fs. numbered_from 1 (keys_of fs) k) is ∙ ap (λ ks. numbered_from 1 ks k) (keys_behind es key x)
          ∙ numbered_behind 0 (keys_of es) key k (sym (has_keys es key) ∙ free)

      by : (b : Bool) → (if b then number else number_of old k) ≡ (if b then suc (0 + length (keys_of es)) else numbered_from 1 (keys_of es) k)
      by true = omega (arith, next, length-keys_of es)
      by false = numbered k

-- The entries and the numbers of some variables are taken out

-- where none is taken out all stay
all_stay : (stays : Key × Value → Bool) (es : Entries) → length es ≤ length (filter stays es) → filter stays es ≡ es
all_stay stays [] h = refl
all_stay stays (e ∷ es) h = by (stays e) h (all_stay stays es)
  where
    by : (b : Bool) → suc (length es) ≤ length (cond b (e ∷ filter stays es) (filter stays es)) → (length es ≤ length (filter stays es) → filter stays es ≡ es)
        → cond b (e ∷ filter stays es) (filter stays es) ≡ e ∷ es
    by true h rest = ap (λ fs. e ∷ fs) (rest (omega arith))
    by false h rest = absurd (omega (arith, h, length-filter stays es, count_by-le-length stays es))

-- whether a key is found among what stays
left_of : {X : Type 0} (stays : ℕ → Bool) (q : Key) (es : List (Key × X)) → lookup (same_key q) (filter (λ e. stays e.0.variable) es) ≡ cond (stays q.variable) (lookup (same_key q) es) None
left_of stays q es = lookup-filter-keys (same_key q) (λ k. stays k.variable) (stays q.variable) (λ k same. ap stays (sym (key_parts q k same).0)) es

module _ (stays : ℕ → Bool) (es new : Entries) (is : new ≡ filter (λ e. stays e.0.variable) es) where
  pub left_once : AreOnce es → AreOnce new
  left_once once = subst AreOnce (sym is) (IsDistinct-keys_filter same_key (λ e. stays e.0.variable) es once)

  pub left_fewer : length new ≤ length es
  left_fewer = omega (arith, ap length is, length-filter (λ (e : Key × Value). stays e.0.variable) es, count_by-le-length (λ (e : Key × Value). stays e.0.variable) es)

  pub left_occupied : (occupied : List Bool) → AreOccupied occupied es → AreOccupied occupied new
  left_occupied occupied kept k there = kept k (by (stays k.variable) (sym (ap is_some (ap (λ fs. value_at fs k) is ∙ left_of stays k es)) ∙ there))
    where
      by : (b : Bool) → is_some (cond b (value_at es k) None) ≡ true → has es k ≡ true
      by true had = had
      by false had = absurd (false≢true had)

  -- a key has a number then just where it has an entry
  module _ (old pages : Pages) (left : pages ≡ filter (λ r. stays r.0.variable) old) (numbered : AreNumbered old es) (k : Key) where
    found : value_at new k ≡ cond (stays k.variable) (value_at es k) None
    found = ap (λ fs. value_at fs k) is ∙ left_of stays k es

    numbers : lookup (same_key (page_key k)) pages ≡ cond (stays k.variable) (lookup (same_key (page_key k)) old) None
    numbers = ap (lookup (same_key (page_key k))) left ∙ left_of stays (page_key k) old

    pub left_noted : has new k ≡ true → 0 < number_of pages k
    left_noted there = by (stays k.variable) numbers (sym (ap is_some found) ∙ there)
      where
        by : (b : Bool) → lookup (same_key (page_key k)) pages ≡ cond b (lookup (same_key (page_key k)) old) None → is_some (cond b (value_at es k) None) ≡ true → 0 < number_of pages k
        by true same had = subst (λ o. 0 < number_in o (k.member % 64)) (sym same) (subst (λ n. 0 < n) (sym (numbered k)) (some_number 0 (keys_of es) k (sym (has_keys es k) ∙ had)))
        by false same had = absurd (false≢true had)

    pub left_free : has new k ≡ false → number_of pages k ≡ 0
    left_free none = by (stays k.variable) numbers (sym (ap is_some found) ∙ none)
      where
        by : (b : Bool) → lookup (same_key (page_key k)) pages ≡ cond b (lookup (same_key (page_key k)) old) None → is_some (cond b (value_at es k) None) ≡ false → number_of pages k ≡ 0
        by true same had = ap (λ o. number_in o (k.member % 64)) same ∙ (numbered k ∙ no_number 1 (keys_of es) k (sym (has_keys es k) ∙ had))
        by false same had = ap (λ o. number_in o (k.member % 64)) same

-- numbers stay where no entry is taken out
pub left_numbered : (stays : ℕ → Bool) (es new : Entries) (old pages : Pages) → new ≡ filter (λ e. stays e.0.variable) es → length es ≤ length new → pages ≡ filter (λ r. stays r.0.variable) old
    → AreNumbered old es → AreNumbered pages new
left_numbered stays es new old pages is many left numbered k = by (has new k) refl
  where
    whole : new ≡ es
    whole = is ∙ all_stay (λ e. stays e.0.variable) es (subst (λ fs. length es ≤ length fs) is many)

    by : (b : Bool) → has new k ≡ b → number_of pages k ≡ numbered_from 1 (keys_of new) k
    by true some = kept (stays k.variable) refl
      where
        kept : (b : Bool) → stays k.variable ≡ b → number_of pages k ≡ numbered_from 1 (keys_of new) k
        kept true e =
            ap (λ o. number_in o (k.member % 64)) (ap (lookup (same_key (page_key k))) left ∙ (left_of stays (page_key k) old ∙ ap (λ b. cond b (lookup (same_key (page_key k)) old) None) e))
            ∙ (numbered k ∙ ap (λ fs. numbered_from 1 (keys_of fs) k) (sym whole))
        kept false e = absurd (false≢true (sym (ap is_some (ap (λ fs. value_at fs k) is ∙ (left_of stays k es ∙ ap (λ b. cond b (value_at es k) None) e))) ∙ some))
    by false none = left_free stays es new is old pages left numbered k none ∙ sym (no_number 1 (keys_of new) k (sym (has_keys new k) ∙ none))

-- Numbers of a page

lookup_like : {X : Type 0} (q k : Key) → same_key q k ≡ true → (pages : List (Key × X)) → lookup (same_key q) pages ≡ lookup (same_key k) pages
lookup_like q k same [] = refl
lookup_like q k same (r ∷ pages) = λ i. cond (laws-law.congr q k r.0 same i) (Some r.1) (lookup_like q k same pages i)

-- a key is another just where its page is, or its place in the page
number_split : (m n : ℕ) → (m == n) ≡ ((m / 64 == n / 64) && (m % 64 == n % 64))
number_split m n = by (m == n) refl (m / 64 == n / 64) refl (m % 64 == n % 64) refl
  where
    by : (a : Bool) → (m == n) ≡ a → (b : Bool) → (m / 64 == n / 64) ≡ b → (d : Bool) → (m % 64 == n % 64) ≡ d → a ≡ (b && d)
    by true same true q true r = refl
    by true same true q false r = absurd (false≢true (sym r ∙ eq-eqb (m % 64) (n % 64) (ap (λ k. k % 64) (eqb-true m n same))))
    by true same false q d r = absurd (false≢true (sym q ∙ eq-eqb (m / 64) (n / 64) (ap (λ k. k / 64) (eqb-true m n same))))
    by false other true q true r =
        let quotients : m / 64 ≡ n / 64 = eqb-true (m / 64) (n / 64) q in
        let rests : m % 64 ≡ n % 64 = eqb-true (m % 64) (n % 64) r in
        absurd (false≢true (sym other ∙ eq-eqb m n (omega arith)))
    by false other true q false r = refl
    by false other false q d r = refl

parted : (v q r e : Bool) → (v && ((q && r) && e)) ≡ ((v && (q && e)) && r)
parted true true true e = by e
  where
    by : (e : Bool) → e ≡ (e && true)
    by true = refl
    by false = refl
parted true true false e = by e
  where
    by : (e : Bool) → false ≡ (e && false)
    by true = refl
    by false = refl
parted true false r e = refl
parted false q r e = refl

key_split : (k j : Key) → same_key k j ≡ (same_key (page_key k) (page_key j) && (k.member % 64 == j.member % 64))
key_split k j =
    ap (λ b. (k.variable == j.variable) && (b && eq_by_cmp span_cmp k.period j.period)) (number_split k.member j.member)
    ∙ parted (k.variable == j.variable) (k.member / 64 == j.member / 64) (k.member % 64 == j.member % 64) (eq_by_cmp span_cmp k.period j.period)

module _ (pages new : Pages) (own : Key) (numbers : List ℕ)
    (put : (k : Key) → lookup (same_key k) new ≡ (if same_key k (page_key own) then Some numbers else lookup (same_key k) pages)) where
  -- a number is put in the page of a key
  pub page_put : (number : ℕ) → ((m : ℕ) → number_at numbers m ≡ (if m == own.member % 64 then number else number_in (lookup (same_key (page_key own)) pages) m))
      → (k : Key) → number_of new k ≡ (if same_key k own then number else number_of pages k)
  page_put number there k = by (same_key (page_key k) (page_key own)) refl ∙ ap (λ b. if b then number else number_of pages k) (sym (key_split k own))
    where
      by : (b : Bool) → same_key (page_key k) (page_key own) ≡ b → number_of new k ≡ (if (b && (k.member % 64 == own.member % 64)) then number else number_of pages k)
      by true e =
          ap (λ o. number_in o (k.member % 64)) (put (page_key k) ∙ ap (λ b. if b then Some numbers else lookup (same_key (page_key k)) pages) e)
          ∙ (there (k.member % 64)
          ∙ ap (λ o. if (k.member % 64 == own.member % 64) then number else number_in o (k.member % 64)) (sym (lookup_like (page_key k) (page_key own) e pages)))
      by false e = ap (λ o. number_in o (k.member % 64)) (put (page_key k) ∙ ap (λ b. if b then Some numbers else lookup (same_key (page_key k)) pages) e)

  -- no number is put
  pub page_like : ((m : ℕ) → number_at numbers m ≡ number_in (lookup (same_key (page_key own)) pages) m) → (k : Key) → number_of new k ≡ number_of pages k
  page_like there k = by (same_key (page_key k) (page_key own)) refl
    where
      by : (b : Bool) → same_key (page_key k) (page_key own) ≡ b → number_of new k ≡ number_of pages k
      by true e =
          ap (λ o. number_in o (k.member % 64)) (put (page_key k) ∙ ap (λ b. if b then Some numbers else lookup (same_key (page_key k)) pages) e)
          ∙ (there (k.member % 64) ∙ ap (λ o. number_in o (k.member % 64)) (sym (lookup_like (page_key k) (page_key own) e pages)))
      by false e = ap (λ o. number_in o (k.member % 64)) (put (page_key k) ∙ ap (λ b. if b then Some numbers else lookup (same_key (page_key k)) pages) e)

-- the page that is found, or one without a number
pub page_or : (found : Option (List ℕ)) (empty : List ℕ) → ((m : ℕ) → number_at empty m ≡ 0) → (m : ℕ) → number_at (unwrap_or found empty) m ≡ number_in found m
page_or None empty none m = none m
page_or (Some ns) empty none m = refl

-- a number is set in the page that is found
pub page_set : (pages : Pages) (own : Key) (number : ℕ) (old numbers : List ℕ) → Some old ≡ lookup (same_key (page_key own)) pages
    → ((m : ℕ) → number_at numbers m ≡ (if m == own.member % 64 then number else number_at old m))
    → (k : Key) → number_of (set_value (same_key (page_key own)) pages numbers) k ≡ (if same_key k own then number else number_of pages k)
page_set pages own number old numbers found there =
    page_put pages (set_value (same_key (page_key own)) pages numbers) own numbers (set_seen (page_key own) numbers pages (ap is_some (sym found))) number
    (λ m. there m ∙ ap (λ o. if m == own.member % 64 then number else number_in o m) found)

-- A look-up by its number

pub none_numbered : (es : Entries) (k : Key) → numbered_from 1 (keys_of es) k ≡ 0 → has es k ≡ false
none_numbered es k is = by (has es k) refl
  where
    by : (b : Bool) → has es k ≡ b → has es k ≡ false
    by true some = let found = numbered_stands 1 es k some in absurd (omega (arith, is, found.1))
    by false none = none

pub stands_by_number : (es : Entries) (k : Key) (n : ℕ) → n ≡ numbered_from 1 (keys_of es) k → 0 < n → StandsAt es k (n - 1)
stands_by_number es k n is some = by (has es k) refl
  where
    by : (b : Bool) → has es k ≡ b → StandsAt es k (n - 1)
    by true there =
        let found = numbered_stands 1 es k there in
        let at : found.0 ≡ n - 1 = omega (arith, is, found.1) in
        subst (StandsAt es k) at found.2
    by false none = absurd (omega (arith, is, some, no_number 1 (keys_of es) k (sym (has_keys es k) ∙ none)))

-- a member whose number is not 0 is within its page
pub within_page : (ns : List ℕ) (m : ℕ) → 0 < number_at ns m → m < length ns
within_page [] m some = absurd (omega (arith, some))
within_page (n ∷ ns) zero some = omega arith
within_page (n ∷ ns) (suc m) some = omega (arith, within_page ns m some)

-- Numbers are set anew, from the front

module _ (es : Entries) (pages : Pages) where
  pub numbers_begin : ((k : Key) → has es k ≡ false → number_of pages k ≡ 0) → (k : Key) → numbered_from 1 (keys_of es) k ≤ 0 → number_of pages k ≡ numbered_from 1 (keys_of es) k
  numbers_begin free k none =
      let zeroth : numbered_from 1 (keys_of es) k ≡ 0 = omega (arith, none) in
      free k (none_numbered es k zeroth) ∙ sym zeroth

  pub numbers_some : ((k : Key) → has es k ≡ true → 0 < number_of pages k) → (k : Key) → 0 < numbered_from 1 (keys_of es) k → 0 < number_of pages k
  numbers_some noted k some = by (has es k) refl
    where
      by : (b : Bool) → has es k ≡ b → 0 < number_of pages k
      by true there = noted k there
      by false none = absurd (omega (arith, some, no_number 1 (keys_of es) k (sym (has_keys es k) ∙ none)))

below : (n i : ℕ) → n ≤ i + 1 → (n ≡ i + 1 → ⊥) → n ≤ i
below n i low other = ⊎_elim (λ (h : i < n). absurd (other (omega (arith, low, h)))) (λ (h : n ≤ i). h) (cases_lt i n)

-- an entry is numbered
module _ (es : Entries) (once : AreOnce es) (i : ℕ) (e : Key × Value) (within : i < length es) (is : e ≡ slice_index_or es i e) where
  there : slice_get es i ≡ Some (e.0, e.1)
  there = slice_get-get_or es i e within ∙ ap (λ x. Some x) (sym is)

  pub own_number : (k : Key) → same_key k e.0 ≡ true → numbered_from 1 (keys_of es) k ≡ 1 + i
  own_number k same = stands_numbered 1 es k i e.0 e.1 once there same

  -- the number of a place is that of no other key
  own_key : (k : Key) → numbered_from 1 (keys_of es) k ≡ 1 + i → same_key k e.0 ≡ true
  own_key k number = by (has es k) refl
    where
      by : (b : Bool) → has es k ≡ b → same_key k e.0 ≡ true
      by true some =
          let found = numbered_stands 1 es k some in
          let at : found.0 ≡ i = omega (arith, number, found.1) in
          let stands = subst (StandsAt es k) at found.2 in
          let own : Some (stands.own, stands.value) ≡ Some (e.0, e.1) = sym stands.there ∙ there in
          let same : (stands.own, stands.value) ≡ (e.0, e.1) = cc in
          sym (ap (λ (x : Key × Value). same_key k x.0) same) ∙ stands.same
      by false none = absurd (omega (arith, number, no_number 1 (keys_of es) k (sym (has_keys es k) ∙ none)))

  module _ (old new : Pages) (set : (k : Key) → number_of new k ≡ (if same_key k e.0 then i + 1 else number_of old k)) where
    pub numbers_go_on : ((k : Key) → numbered_from 1 (keys_of es) k ≤ i → number_of old k ≡ numbered_from 1 (keys_of es) k) → (k : Key) → numbered_from 1 (keys_of es) k ≤ i + 1 → number_of new k ≡ numbered_from 1 (keys_of es) k
    numbers_go_on done k low = by (same_key k e.0) refl
      where
        by : (b : Bool) → same_key k e.0 ≡ b → number_of new k ≡ numbered_from 1 (keys_of es) k
        by true same = set k ∙ (ap (λ b. if b then i + 1 else number_of old k) same ∙ omega (arith, own_number k same))
        by false other = set k ∙ (ap (λ b. if b then i + 1 else number_of old k) other ∙ done k lower)
          where
            not_own : (n : ℕ) → n ≡ numbered_from 1 (keys_of es) k → n ≡ i + 1 → ⊥
            not_own n is at = false≢true (sym other ∙ own_key k (omega (arith, is, at)))

            lower : numbered_from 1 (keys_of es) k ≤ i
            lower = below (numbered_from 1 (keys_of es) k) i low (not_own (numbered_from 1 (keys_of es) k) refl)

    pub numbers_next : ((k : Key) → 0 < numbered_from 1 (keys_of es) k → 0 < number_of old k) → (k : Key) → 0 < numbered_from 1 (keys_of es) k → 0 < number_of new k
    numbers_next noted k some = by (same_key k e.0) refl
      where
        by : (b : Bool) → same_key k e.0 ≡ b → 0 < number_of new k
        by true same = subst (λ n. 0 < n) (sym (set k ∙ ap (λ b. if b then i + 1 else number_of old k) same)) (omega arith)
        by false other = subst (λ n. 0 < n) (sym (set k ∙ ap (λ b. if b then i + 1 else number_of old k) other)) (noted k some)
