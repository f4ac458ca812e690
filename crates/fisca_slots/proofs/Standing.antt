-- What stands at the keys that axes move, among inputs with those of axes put in.
use Rattle.std.proofs.Common.{◌≡◌, true≢false, ℕ, ◌+◌, ◌*◌, ◌<◌, List, [], ◌∷◌, ◌++◌, map, Bool, true, false, refl, sym, ap, ap₂, subst, ◌∙◌, arith, inl, inr, if◌then◌else◌, ◌||◌, ◌&&◌}
use Rattle.std.specs.Prelude.{◌⊎◌, nat_le}
use Rattle.std.specs.Cmp.{unsigned_ties}
use Rattle.std.specs.List.{list_any}
use Rattle.std.specs.Ordering.{eq_by_cmp, is_eq, is_lt, nat_cmp, ordering_then}
use Rattle.std.proofs.lemmas.Bool.{and_parts, eqb-true, eq-eqb, leb-true, lt-ltb, or_parts}
use Rattle.std.proofs.lemmas.List.Folds.{list_any-append}
use Rattle.fisca_inputs.specs.Entries.{same_key}
use Rattle.fisca_inputs.specs.Steps.Order.{given_cmp}
use Rattle.fisca_inputs.specs.Rules.{Rule}
use Rattle.fisca_inputs.specs.Sharing.{own_key}
use Rattle.fisca_inputs.specs.Steps.Sharing.{parts_of}
use Rattle.fisca_inputs.specs.declared.given.Given.{Given}
use Rattle.fisca_model.specs.declared.key.Key.{Key}
use Rattle.fisca_model.specs.Periods.{fits}
use Rattle.fisca_inputs.specs.Overlaps.{shares_day, starts_before}
use Rattle.fisca_inputs.specs.Steps.Overlaps.{is_across, meets, overlaps}
use Rattle.fisca_slots.proofs.Both.{Moving, keys_of}
use Rattle.fisca_inputs.proofs.Numbered.{key_parts}
use Rattle.fisca_slots.proofs.Parts.{both_equal, part_key}
use Rattle.fisca_slots.proofs.Placed.{AllOf, Apart, NoneOverlaps, across, key_of, place, place_all}
use Rattle.fisca_slots.proofs.Shared.{Each, Pairwise, given_of, order_moving, put_moving}
use Rattle.fisca_time.proofs.Days.{month_start-lt}
use Rattle.fisca_time.specs.Calendar.{first_day, end_day}
use Rattle.fisca_time.specs.Instant.{is_between}
use Rattle.fisca_time.specs.Kept.{span_of}
use Rattle.fisca_time.specs.Period.{Span, eternity, months, days, first_of, is_period, is_within, month_start, size_of, span_cmp, unit_of}
use Rattle.fisca_time.specs.Unit.{is_month, is_year, months_in, rank, unit_ranked}
use Rattle.fisca_time.specs.declared.unit.Unit.{Unit}
use Rattle.fisca_time.specs.declared.unit.Unit.TheVariants.{Day, Month, Year, Eternity}

-- Periods

span_back : (p : Span) → is_period p ≡ true → span_of (unit_of p) (first_of p) (size_of p) ≡ p
span_back eternity h = refl
span_back (months Day first size) h = cc
span_back (months Month first size) h = refl
span_back (months Year first size) h = refl
span_back (months Eternity first size) h = cc
span_back (days first size) h = refl

rank_of : (u : Unit) → unit_ranked (rank u) ≡ u
rank_of Day = refl
rank_of Month = refl
rank_of Year = refl
rank_of Eternity = refl

-- equal periods are the same
pub same_period : (p q : Span) → is_period p ≡ true → is_period q ≡ true → eq_by_cmp span_cmp p q ≡ true → p ≡ q
same_period p q hp hq h =
    let units = both_equal (nat_cmp (rank (unit_of p)) (rank (unit_of q))) (ordering_then (nat_cmp (first_of p) (first_of q)) (nat_cmp (size_of p) (size_of q))) h in
    let sizes = both_equal (nat_cmp (first_of p) (first_of q)) (nat_cmp (size_of p) (size_of q)) units.1 in
    let unit : unit_of p ≡ unit_of q = sym (rank_of (unit_of p)) ∙ (ap unit_ranked (tied (rank (unit_of p)) (rank (unit_of q)) units.0) ∙ rank_of (unit_of q)) in
    let first : first_of p ≡ first_of q = tied (first_of p) (first_of q) sizes.0 in
    let size : size_of p ≡ size_of q = tied (size_of p) (size_of q) sizes.1 in
    sym (span_back p hp) ∙ ((λ i. span_of (unit i) (first i) (size i)) ∙ span_back q hq)
  where
    tied : (x y : ℕ) → is_eq (nat_cmp x y) ≡ true → x ≡ y
    tied x y h = eqb-true x y (unsigned_ties x y ∙ h)

some_size : (own : Unit) (first size : ℕ) → is_period (months own first size) ≡ true → 0 < size
some_size own first size h =
    let parts = and_parts ((is_month own || is_year own) && is_between 1 1200 size) (is_within 12 120_000 first (months_in own * size)) h in
    let sizes = and_parts (is_month own || is_year own) (is_between 1 1200 size) parts.0 in
    leb-true 1 size (and_parts (nat_le 1 size) (nat_le size 1200) sizes.1).0

some_days : (first size : ℕ) → is_period (days first size) ≡ true → 0 < size
some_days first size h =
    let parts = and_parts (is_between 1 1200 size) (is_within first_day end_day first size) h in
    leb-true 1 size (and_parts (nat_le 1 size) (nat_le size 1200) parts.0).0

-- a period has a day
own_day : (p : Span) → is_period p ≡ true → starts_before p p ≡ true
own_day eternity h = refl
own_day (months Day first size) h = cc
own_day (months Month first size) h =
    let some = some_size Month first size h in
    lt-ltb (month_start first) (month_start (first + 1 * size)) (month_start-lt first (first + 1 * size) (omega (arith, some)))
own_day (months Year first size) h =
    let some = some_size Year first size h in
    lt-ltb (month_start first) (month_start (first + 12 * size)) (month_start-lt first (first + 12 * size) (omega (arith, some)))
own_day (months Eternity first size) h = cc
own_day (days first size) h = let some = some_days first size h in lt-ltb first (first + size) (omega (arith, some))

shares_own : (p : Span) → is_period p ≡ true → shares_day p p ≡ true
shares_own p h = ap (λ b. (b && b) && (b && b)) (own_day p h)

-- Keys

pub key_member : (r : Rule) (g : Given) (q : Key) → list_any (same_key q) (keys_of r g) ≡ true → q.member ≡ g.member
key_member r g q h = by (fits r.unit g.period) h
  where
    one : (b : Bool) → same_key q (own_key r g) ≡ b → (b || false) ≡ true → q.member ≡ g.member
    one true same e = (key_parts q (own_key r g) same).1
    one false different e = cc

    by : (b : Bool) → list_any (same_key q) (if b then own_key r g ∷ [] else parts_of r g) ≡ true → q.member ≡ g.member
    by true e = one (same_key q (own_key r g)) refl e
    by false e = (part_key r g q e).member

pub all_across : (t u : Moving) → t.given.variable ≡ u.given.variable → t.given.member ≡ u.given.member → shares_day t.given.period u.given.period ≡ true
    → across t u ≡ true
all_across t u variable member shares =
    ap₂ (λ a b. a && b) (eq-eqb t.given.variable u.given.variable variable) (ap₂ (λ a b. a && b) (eq-eqb t.given.member u.given.member member) shares)

-- inputs of which no day is common have other keys
other_keys : (t u : Moving) → is_period t.given.period ≡ true → is_period u.given.period ≡ true → across t u ≡ false
    → same_key (key_of t) (key_of u) ≡ false
other_keys t u own other apart = by (same_key (key_of t) (key_of u)) refl
  where
    by : (b : Bool) → same_key (key_of t) (key_of u) ≡ b → b ≡ false
    by true same =
        let parts = key_parts (key_of t) (key_of u) same in
        let period = same_period t.given.period u.given.period own other parts.2 in
        let met = all_across t u parts.0 parts.1 (ap (shares_day t.given.period) (sym period) ∙ shares_own t.given.period own) in
        absurd (true≢false (sym met ∙ apart))
    by false different = refl

-- Lists

abbrev pub Among : Moving → List Moving → Type 0
Among y [] = ⊥
Among y (t ∷ ts) = (y ≡ t) ⊎ Among y ts

pub each_from : (R : Moving → Moving → Type 0) (t : Moving) (zs : List Moving) → ((z : Moving) → Among z zs → R t z) → Each R t zs
each_from R t [] all = tt
each_from R t (z ∷ zs) all = (all z (inl refl), each_from R t zs (λ y m. all y (inr m)))

each_to : (R S : Moving → Moving → Type 0) (t : Moving) (zs : List Moving) → ((z : Moving) → Among z zs → R t z → S t z) → Each R t zs → Each S t zs
each_to R S t [] turn all = tt
each_to R S t (z ∷ zs) turn all = (turn z (inl refl) all.0, each_to R S t zs (λ y m. turn y (inr m)) all.1)

each_at : (R : Moving → Moving → Type 0) (t : Moving) (zs : List Moving) → Each R t zs → (z : Moving) → Among z zs → R t z
each_at R t [] all z m = absurd m
each_at R t (y ∷ ys) all z (inl e) = subst (R t) (sym e) all.0
each_at R t (y ∷ ys) all z (inr m) = each_at R t ys all.1 z m

module _ (P : Moving → Type 0) (R : Moving → Moving → Type 0) where
  pub holds_at : (ts : List Moving) → Pairwise P R ts → (t : Moving) → Among t ts → P t
  holds_at [] all t m = absurd m
  holds_at (u ∷ us) all t (inl e) = subst P (sym e) all.0
  holds_at (u ∷ us) all t (inr m) = holds_at us all.1.1 t m

  pub pairs_to : (Q : Moving → Type 0) (S : Moving → Moving → Type 0) (ts : List Moving) → ((t : Moving) → Among t ts → P t → Q t)
      → ((t u : Moving) → Among t ts → Among u ts → R t u → S t u) → Pairwise P R ts → Pairwise Q S ts
  pairs_to Q S [] one two all = tt
  pairs_to Q S (t ∷ ts) one two all = (
    one t (inl refl) all.0,
    (each_to R S t ts (λ u m. two t u (inl refl) (inr m)) all.1.0, pairs_to Q S ts (λ u m. one u (inr m)) (λ u w m n. two u w (inr m) (inr n)) all.1.1),
  )

  -- two of a list that are not the same
  pub pair_at : ((t u : Moving) → R t u → R u t) → (ts : List Moving) → Pairwise P R ts → (t u : Moving) → Among t ts → Among u ts → (t ≡ u → ⊥) → R t u
  pair_at turn [] all t u m n other = absurd m
  pair_at turn (w ∷ ws) all t u (inl e) (inl f) other = absurd (other (e ∙ sym f))
  pair_at turn (w ∷ ws) all t u (inl e) (inr n) other = subst (λ x. R x u) (sym e) (each_at R w ws all.1.0 u n)
  pair_at turn (w ∷ ws) all t u (inr m) (inl f) other = subst (R t) (sym f) (turn w t (each_at R w ws all.1.0 t m))
  pair_at turn (w ∷ ws) all t u (inr m) (inr n) other = pair_at turn ws all.1.1 t u m n other

-- Putting in order, and in place

module _ (rules : List Rule) where
  among_put : (y t : Moving) (us : List Moving) → Among y (t ∷ us) → Among y (put_moving rules t us)
  among_put y t [] m = m
  among_put y t (u ∷ us) m = by (is_lt (given_cmp rules t.given u.given)) m (among_put y t us)
    where
      by : (b : Bool) → Among y (t ∷ u ∷ us) → (Among y (t ∷ us) → Among y (put_moving rules t us)) → Among y (if b then t ∷ u ∷ us else u ∷ put_moving rules t us)
      by true m later = m
      by false (inl e) later = inr (later (inl e))
      by false (inr (inl e)) later = inl e
      by false (inr (inr m)) later = inr (later (inr m))

  pub among_order : (y : Moving) (sorted ts : List Moving) → Among y sorted ⊎ Among y ts → Among y (order_moving rules sorted ts)
  among_order y sorted [] (inl m) = m
  among_order y sorted [] (inr m) = absurd m
  among_order y sorted (t ∷ ts) (inl m) = among_order y (put_moving rules t sorted) ts (inl (among_put y t sorted (inr m)))
  among_order y sorted (t ∷ ts) (inr (inl e)) = among_order y (put_moving rules t sorted) ts (inl (among_put y t sorted (inl e)))
  among_order y sorted (t ∷ ts) (inr (inr m)) = among_order y (put_moving rules t sorted) ts (inr m)

placed_new : (z : Moving) (ts : List Moving) → Among z (place ts z)
placed_new z [] = inl refl
placed_new z (t ∷ ts) = by (same_key (key_of t) (key_of z)) (placed_new z ts)
  where
    by : (b : Bool) → Among z (place ts z) → Among z (if b then z ∷ ts else t ∷ place ts z)
    by true m = inl refl
    by false m = inr m

placed_kept : (y z : Moving) (ts : List Moving) → same_key (key_of y) (key_of z) ≡ false → Among y ts → Among y (place ts z)
placed_kept y z [] other m = absurd m
placed_kept y z (t ∷ ts) other m = by (same_key (key_of t) (key_of z)) refl m (placed_kept y z ts other)
  where
    by : (b : Bool) → same_key (key_of t) (key_of z) ≡ b → (y ≡ t) ⊎ Among y ts → (Among y ts → Among y (place ts z))
        → Among y (if b then z ∷ ts else t ∷ place ts z)
    by true same (inl e) later = absurd (true≢false (sym same ∙ (ap (λ (x : Moving). same_key (key_of x) (key_of z)) (sym e) ∙ other)))
    by true same (inr m) later = inr m
    by false same (inl e) later = inl e
    by false same (inr m) later = inr (later m)

all_kept : (y : Moving) (ts zs : List Moving) → Each Apart y zs → Among y ts → Among y (place_all ts zs)
all_kept y ts [] others m = m
all_kept y ts (z ∷ zs) others m = all_kept y (place ts z) zs others.1 (placed_kept y z ts others.0.keys m)

pub all_placed : (P : Moving → Type 0) (ts zs : List Moving) → Pairwise P Apart zs → (y : Moving) → Among y zs → Among y (place_all ts zs)
all_placed P ts [] pairs y m = absurd m
all_placed P ts (z ∷ zs) pairs y (inl e) =
    subst (λ x. Among x (place_all (place ts z) zs)) (sym e) (all_kept z (place ts z) zs pairs.1.0 (placed_new z ts))
all_placed P ts (z ∷ zs) pairs y (inr m) = all_placed P (place ts z) zs pairs.1.1 y m

-- What axes move shares no day.

abbrev IsMet : Given → List Given → Type 0
IsMet g before = (x m : ℕ) (p : Span) → meets before x m p ≡ false → is_across x m p g ≡ false

met_more : (g h : Given) (before : List Given) → IsMet g before → IsMet g (before ++ h ∷ [])
met_more g h before met x m p none =
    met x m p (or_parts (meets before x m p) (list_any (is_across x m p) (h ∷ [])) (sym (list_any-append (is_across x m p) before (h ∷ [])) ∙ none)).0

met_last : (g : Given) (before : List Given) → IsMet g (before ++ g ∷ [])
met_last g before x m p none =
    let parts = or_parts (meets before x m p) (list_any (is_across x m p) (g ∷ [])) (sym (list_any-append (is_across x m p) before (g ∷ [])) ∙ none) in
    (or_parts (is_across x m p g) false parts.1).0

module _ (P : Moving → Type 0) (period : (t : Moving) → P t → is_period t.given.period ≡ true) where
  each_apart : (z : Moving) (given before : List Given) (us : List Moving) → P z → AllOf P us → IsMet z.given before → NoneOverlaps given before (map given_of us)
      → Each Apart z us
  each_apart z given before [] p all met none = tt
  each_apart z given before (u ∷ us) p all met none =
      let x = u.given.variable in
      let m = u.given.member in
      let apart : across z u ≡ false = met x m u.given.period (or_parts (meets before x m u.given.period) (overlaps given x m u.given.period) none.0).0 in (
        record { keys = other_keys z u (period z p) (period u all.0) apart; days = λ moved. apart },
        each_apart z given (before ++ u.given ∷ []) us p all.1 (met_more z.given u.given before met) none.1,
      )

  pub all_apart : (given before : List Given) (zs : List Moving) → AllOf P zs → NoneOverlaps given before (map given_of zs) → Pairwise P Apart zs
  all_apart given before [] all none = tt
  all_apart given before (z ∷ zs) all none = (
    all.0,
    (
      each_apart z given (before ++ z.given ∷ []) zs all.0 all.1 (met_last z.given before) none.1,
      all_apart given (before ++ z.given ∷ []) zs all.1 none.1,
    ),
  )
