-- What picking the lowest bracket above a threshold, again and again, has to do with sorting.
use Rattle.std.proofs.Common.{◌≡◌, Bool, true, false, ◌||◌, cond, List, [], ◌∷◌, Option, Some, None, refl, sym, ◌∙◌, ap, filter, ◌⊎◌, inl, inr, Result, Ok, Err, length, ◌<◌, arith}
use Rattle.std.proofs.lemmas.Cmp.{upto, tied_itself}
use Rattle.std.specs.declared.cmp.Ordering.{Ordering}
use Rattle.std.specs.declared.cmp.Ordering.TheVariants.{Less, Equal, Greater}
use Rattle.std.specs.Ordering.{is_lt, is_eq, is_gt, ordering_reverse}
use Rattle.fisca_num.specs.Number.{Number, number_cmp, zero_number}
use Rattle.fisca_num.specs.Order.{number_total}
use Rattle.fisca_scales.specs.declared.bracket.CompleteBracket.{CompleteBracket}
use Rattle.fisca_num.specs.declared.faults.NumFault.{NumFault}
use Rattle.fisca_scales.specs.declared.fault.ParamFault.{ParamFault}
use Rattle.fisca_scales.specs.declared.bracket.ScaleKind.{ScaleKind}
use Rattle.fisca_scales.specs.declared.lowest.Lowest.{Lowest}
use Rattle.fisca_num.specs.Results.{and_then}
use Rattle.fisca_scales.specs.Scale.{put_in_order, in_order, starts_at, has_equal, after_bracket, total, in_params, sum_of_sorted}
use Rattle.fisca_scales.specs.Steps.Scale.{is_below}
use Rattle.fisca_scales.specs.declared.tally.Tally.{Tally}
use Rattle.fisca_scales.specs.declared.fault.ParamFault.TheVariants as fault
use Rattle.fisca_scales.specs.Tally.{empty_tally}
use Rattle.fisca_scales.specs.Steps.Tally.{is_above, tally_with, tally_of, answer_of, rises_from, sum_if_distinct, sum_if_rising}
use Rattle.fisca_scales.specs.Steps.Lowest.{lower_of, lowest_above}

-- is_below is a strict order

lt_is_less : (o : Ordering) → is_lt o ≡ true → o ≡ Less
lt_is_less Less h = refl
lt_is_less Equal h = cc
lt_is_less Greater h = cc

lt_reversed : (o : Ordering) → is_lt (ordering_reverse o) ≡ is_gt o
lt_reversed Less = refl
lt_reversed Equal = refl
lt_reversed Greater = refl

pub below-gt : (a b : Number) → is_below b a ≡ is_gt (number_cmp a b)
below-gt a b = ap is_lt (number_total.antisymm b a) ∙ lt_reversed (number_cmp a b)

gt_not_lt : (o : Ordering) → is_lt o ≡ true → is_gt o ≡ false
gt_not_lt Less h = refl
gt_not_lt Equal h = refl
gt_not_lt Greater h = cc

eq_not_lt : (o : Ordering) → is_lt o ≡ true → is_eq o ≡ false
eq_not_lt Less h = refl
eq_not_lt Equal h = cc
eq_not_lt Greater h = cc

lt_from_rest : (o : Ordering) → is_gt o ≡ false → is_eq o ≡ false → is_lt o ≡ true
lt_from_rest Less g e = refl
lt_from_rest Equal g e = cc
lt_from_rest Greater g e = cc

below-trans : (a b c : Number) → is_below a b ≡ true → is_below b c ≡ true → is_below a c ≡ true
below-trans a b c p q = ap is_lt (number_total.trans a b c (lt_is_less _ p) (lt_is_less _ q))

below-asym : (a b : Number) → is_below a b ≡ true → is_below b a ≡ false
below-asym a b p = below-gt a b ∙ gt_not_lt (number_cmp a b) p

below-irrefl : (a : Number) → is_below a a ≡ false
below-irrefl a = ap is_lt (tied_itself number_total a)

-- a ≤ b ≤ c
not_below-trans : (a b c : Number) → is_below b a ≡ false → is_below c b ≡ false → is_below c a ≡ false
not_below-trans a b c p q = below-gt a c ∙ upto number_total a b c (sym (below-gt a b) ∙ p) (sym (below-gt b c) ∙ q)

true_or : (v w : Bool) → (v ≡ false → w ≡ true → ⊥) → w ≡ true → v ≡ true
true_or true w h e = refl
true_or false w h e = absurd (h refl e)

-- a < b ≤ c
below-not_below : (a b c : Number) → is_below a b ≡ true → is_below c b ≡ false → is_below a c ≡ true
below-not_below a b c p q =
    true_or (is_below a c) (is_below a b) (λ n _. let m : is_below b a ≡ false = below-asym a b p in let k : is_below a b ≡ false = not_below-trans b c a q n in cc) p

-- sorted lists

abbrev pub AllFrom : CompleteBracket → List CompleteBracket → Type 0
AllFrom b [] = Unit {0}
AllFrom b (c ∷ cs) = (is_below c.threshold b.threshold ≡ false) × AllFrom b cs

abbrev pub Sorted : List CompleteBracket → Type 0
Sorted [] = Unit {0}
Sorted (b ∷ bs) = AllFrom b bs × Sorted bs

-- put_in_order with its test decided
put-before : (b c : CompleteBracket) (cs : List CompleteBracket) → is_below c.threshold b.threshold ≡ false → put_in_order b (c ∷ cs) ≡ b ∷ c ∷ cs
put-before b c cs p = rw p refl

put-after : (b c : CompleteBracket) (cs : List CompleteBracket) → is_below c.threshold b.threshold ≡ true → put_in_order b (c ∷ cs) ≡ c ∷ put_in_order b cs
put-after b c cs p = rw p refl

decided : (v : Bool) → (v ≡ true) ⊎ (v ≡ false)
decided true = inl refl
decided false = inr refl

AllFrom-put : (a b : CompleteBracket) (bs : List CompleteBracket) → is_below b.threshold a.threshold ≡ false → AllFrom a bs → AllFrom a (put_in_order b bs)
AllFrom-put a b [] p h = (p, h)
AllFrom-put a b (c ∷ cs) p h =
    elim (decided (is_below c.threshold b.threshold)) [
      | inl t ↦ rw (put-after b c cs t) (h.0, AllFrom-put a b cs p h.1)
      | inr f ↦ rw (put-before b c cs f) (p, h)
    ]

AllFrom-lower : (a b : CompleteBracket) (bs : List CompleteBracket) → is_below b.threshold a.threshold ≡ false → AllFrom b bs → AllFrom a bs
AllFrom-lower a b [] p h = h
AllFrom-lower a b (c ∷ cs) p h = (not_below-trans a.threshold b.threshold c.threshold p h.0, AllFrom-lower a b cs p h.1)

Sorted-put : (b : CompleteBracket) (bs : List CompleteBracket) → Sorted bs → Sorted (put_in_order b bs)
Sorted-put b [] h = (tt, tt)
Sorted-put b (c ∷ cs) h =
    elim (decided (is_below c.threshold b.threshold)) [
      | inl t ↦ rw (put-after b c cs t) (AllFrom-put c b cs (below-asym c.threshold b.threshold t) h.0, Sorted-put b cs h.1)
      | inr f ↦ rw (put-before b c cs f) ((f, AllFrom-lower b c cs f h.0), h)
    ]

pub Sorted-in_order : (bs : List CompleteBracket) → Sorted (in_order bs)
Sorted-in_order [] = tt
Sorted-in_order (b ∷ bs) = Sorted-put b (in_order bs) (Sorted-in_order bs)

-- the brackets above a threshold

abbrev pub above_only : Option Number → List CompleteBracket → List CompleteBracket
above_only low bs = filter (λ b. is_above low b.threshold) bs

keeps : (low : Option Number) (b : CompleteBracket) (bs : List CompleteBracket) → is_above low b.threshold ≡ true → above_only low (b ∷ bs) ≡ b ∷ above_only low bs
keeps low b bs p = rw p refl

drops : (low : Option Number) (b : CompleteBracket) (bs : List CompleteBracket) → is_above low b.threshold ≡ false → above_only low (b ∷ bs) ≡ above_only low bs
drops low b bs p = rw p refl

above-up : (low : Option Number) (b c : Number) → is_above low b ≡ true → is_below c b ≡ false → is_above low c ≡ true
above-up None b c p q = refl
above-up (Some a) b c p q = below-not_below a b c p q

-- where the first of a sorted list is above, all are
all_above : (low : Option Number) (b : CompleteBracket) (bs : List CompleteBracket) → is_above low b.threshold ≡ true → AllFrom b bs → above_only low bs ≡ bs
all_above low b [] p h = refl
all_above low b (c ∷ cs) p h = rw (keeps low c cs (above-up low b.threshold c.threshold p h.0), all_above low b cs p h.1) refl

-- the first of brackets in order, and whether the second has its threshold
abbrev pub front_of : List CompleteBracket → Option Lowest
front_of [] = None
front_of (b ∷ bs) = Some (record { bracket = b; is_shared = starts_at b.threshold bs })

below_not_tied : (a b : Number) → is_below a b ≡ true → is_eq (number_cmp a b) ≡ false
below_not_tied a b p = eq_not_lt (number_cmp a b) p

-- a bracket put behind the first of a sorted list does not change whether the second has the first's threshold
starts-put : (a b : CompleteBracket) (cs : List CompleteBracket) → is_below a.threshold b.threshold ≡ true → AllFrom a cs → starts_at a.threshold (put_in_order b cs) ≡ starts_at a.threshold cs
starts-put a b [] p h = below_not_tied a.threshold b.threshold p
starts-put a b (d ∷ ds) p h =
    elim (decided (is_below d.threshold b.threshold)) [
      | inl t ↦ rw (put-after b d ds t) refl
      | inr f ↦ rw (put-before b d ds f) (below_not_tied a.threshold b.threshold p ∙ sym (below_not_tied a.threshold d.threshold (below-not_below a.threshold b.threshold d.threshold p f)))
    ]

pick-above : (low : Option Number) (b : CompleteBracket) (l : Option Lowest) → is_above low b.threshold ≡ true → cond (is_above low b.threshold) (Some (lower_of b l)) l ≡ Some (lower_of b l)
pick-above low b l p = rw p refl

pick-below : (low : Option Number) (b : CompleteBracket) (l : Option Lowest) → is_above low b.threshold ≡ false → cond (is_above low b.threshold) (Some (lower_of b l)) l ≡ l
pick-below low b l p = rw p refl

lower-other : (b : CompleteBracket) (l : Lowest) → is_below l.bracket.threshold b.threshold ≡ true → lower_of b (Some l) ≡ l
lower-other b l p = rw p refl

lower-own : (b : CompleteBracket) (l : Lowest) → is_below l.bracket.threshold b.threshold ≡ false → lower_of b (Some l) ≡ record { bracket = b; is_shared = is_eq (number_cmp b.threshold l.bracket.threshold) }
lower-own b l p = rw p refl

abbrev picked : Option Number → CompleteBracket → Option Lowest → Option Lowest
picked low b l = cond (is_above low b.threshold) (Some (lower_of b l)) l

front_after_above : (low : Option Number) (b c : CompleteBracket) (cs : List CompleteBracket) → Sorted (c ∷ cs) →
    is_below c.threshold b.threshold ≡ true → is_above low c.threshold ≡ true →
    front_of (above_only low (put_in_order b (c ∷ cs))) ≡ picked low b (front_of (above_only low (c ∷ cs)))
front_after_above low b c cs h t u =
    let from : is_below b.threshold c.threshold ≡ false = below-asym c.threshold b.threshold t in
    let all_of : above_only low (c ∷ cs) ≡ c ∷ cs = keeps low c cs u ∙ ap (λ xs. c ∷ xs) (all_above low c cs u h.0) in
    let all_put : above_only low (put_in_order b (c ∷ cs)) ≡ c ∷ put_in_order b cs =
    ap (above_only low) (put-after b c cs t) ∙ keeps low c (put_in_order b cs) u ∙ ap (λ xs. c ∷ xs) (all_above low c (put_in_order b cs) u (AllFrom-put c b cs from h.0)) in
    ap front_of all_put
    ∙ ap (λ s. Some (record { bracket = c; is_shared = s })) (starts-put c b cs t h.0)
    ∙ ap Some (sym (lower-other b (record { bracket = c; is_shared = starts_at c.threshold cs }) t))
    ∙ sym (pick-above low b (front_of (c ∷ cs)) (above-up low c.threshold b.threshold u from))
    ∙ ap (λ xs. picked low b (front_of xs)) (sym all_of)

front_after_below : (low : Option Number) (b c : CompleteBracket) (cs : List CompleteBracket) →
    is_below c.threshold b.threshold ≡ true → is_above low c.threshold ≡ false →
    front_of (above_only low (put_in_order b cs)) ≡ picked low b (front_of (above_only low cs)) →
    front_of (above_only low (put_in_order b (c ∷ cs))) ≡ picked low b (front_of (above_only low (c ∷ cs)))
front_after_below low b c cs t n h =
    ap (λ xs. front_of (above_only low xs)) (put-after b c cs t)
    ∙ ap front_of (drops low c (put_in_order b cs) n)
    ∙ h
    ∙ ap (λ xs. picked low b (front_of xs)) (sym (drops low c cs n))

front_before : (low : Option Number) (b c : CompleteBracket) (cs : List CompleteBracket) → is_below c.threshold b.threshold ≡ false →
    front_of (above_only low (put_in_order b (c ∷ cs))) ≡ picked low b (front_of (above_only low (c ∷ cs)))
front_before low b c cs f =
    elim (decided (is_above low b.threshold)) [
      | inl t ↦
          let u : is_above low c.threshold ≡ true = above-up low b.threshold c.threshold t f in
          ap (λ xs. front_of (above_only low xs)) (put-before b c cs f)
          ∙ ap front_of (keeps low b (c ∷ cs) t)
          ∙ ap (λ xs. front_of (b ∷ xs)) (keeps low c cs u)
          ∙ ap Some (sym (lower-own b (record { bracket = c; is_shared = starts_at c.threshold (above_only low cs) }) f))
          ∙ sym (pick-above low b (front_of (c ∷ above_only low cs)) t)
          ∙ ap (λ xs. picked low b (front_of xs)) (sym (keeps low c cs u))
      | inr n ↦
          ap (λ xs. front_of (above_only low xs)) (put-before b c cs f)
          ∙ ap front_of (drops low b (c ∷ cs) n)
          ∙ sym (pick-below low b (front_of (above_only low (c ∷ cs))) n)
    ]

-- the front of a sorted list with one bracket more
front-put : (low : Option Number) (b : CompleteBracket) (bs : List CompleteBracket) → Sorted bs →
    front_of (above_only low (put_in_order b bs))
    ≡ cond (is_above low b.threshold) (Some (lower_of b (front_of (above_only low bs)))) (front_of (above_only low bs))
front-put low b [] h =
    elim (decided (is_above low b.threshold)) [
      | inl t ↦ rw (keeps low b [] t, t) refl
      | inr f ↦ rw (drops low b [] f, f) refl
    ]
front-put low b (c ∷ cs) h =
    elim (decided (is_below c.threshold b.threshold)) [
      | inl t ↦ elim (decided (is_above low c.threshold)) [
        | inl u ↦ front_after_above low b c cs h t u
        | inr n ↦ front_after_below low b c cs t n (front-put low b cs h.1)
      ]
      | inr f ↦ front_before low b c cs f
    ]

-- what picking the lowest above a threshold finds
pub lowest-front : (low : Option Number) (bs : List CompleteBracket) → lowest_above low bs ≡ front_of (above_only low (in_order bs))
lowest-front low [] = refl
lowest-front low (b ∷ bs) =
    ap (λ l. cond (is_above low b.threshold) (Some (lower_of b l)) l) (lowest-front low bs)
    ∙ sym (front-put low b (in_order bs) (Sorted-in_order bs))

-- the first above a threshold is above it
first_above : (low : Option Number) (bs : List CompleteBracket) (b : CompleteBracket) (rest : List CompleteBracket) → above_only low bs ≡ b ∷ rest → is_above low b.threshold ≡ true
first_above low [] b rest e = cc
first_above low (c ∷ cs) b rest e =
    elim (decided (is_above low c.threshold)) [
      | inl t ↦ let k : c ∷ above_only low cs ≡ b ∷ rest = sym (keeps low c cs t) ∙ e in let same : c ≡ b = cc in ap (λ d. is_above low d.threshold) (sym same) ∙ t
      | inr f ↦ first_above low cs b rest (sym (drops low c cs f) ∙ e)
    ]

not_above_first : (low : Option Number) (b c : Number) → is_above low b ≡ true → is_above low c ≡ false → is_below b c ≡ false
not_above_first None b c p q = cc
not_above_first (Some a) b c p q =
    elim (decided (is_below b c)) [ inl t ↦ let k : is_below a c ≡ true = below-trans a b c p t in cc | inr f ↦ f ]

-- brackets in order after one whose threshold none of them has are above it
all_above_first : (b : CompleteBracket) (bs : List CompleteBracket) → Sorted (b ∷ bs) → starts_at b.threshold bs ≡ false → above_only (Some b.threshold) bs ≡ bs
all_above_first b [] h n = refl
all_above_first b (c ∷ cs) h n =
    let up : is_below b.threshold c.threshold ≡ true = lt_from_rest (number_cmp b.threshold c.threshold) (sym (below-gt b.threshold c.threshold) ∙ h.0.0) n in
    keeps (Some b.threshold) c cs up ∙ ap (λ xs. c ∷ xs) (all_above (Some b.threshold) c cs up h.1.0)

-- past the first of the brackets above a threshold, where no other has its own, stand those above that one
pub above-rest : (low : Option Number) (bs : List CompleteBracket) → Sorted bs → (b : CompleteBracket) (rest : List CompleteBracket) →
    above_only low bs ≡ b ∷ rest → starts_at b.threshold rest ≡ false → above_only (Some b.threshold) bs ≡ rest
above-rest low [] h b rest e n = cc
above-rest low (c ∷ cs) h b rest e n =
    elim (decided (is_above low c.threshold)) [
      | inl t ↦
          let whole : c ∷ cs ≡ b ∷ rest = ap (λ xs. c ∷ xs) (sym (all_above low c cs t h.0)) ∙ sym (keeps low c cs t) ∙ e in
          let head : c ≡ b = cc in
          let tail : cs ≡ rest = cc in
          let apart : starts_at c.threshold cs ≡ false = ap (λ d. starts_at d.threshold cs) head ∙ ap (starts_at b.threshold) tail ∙ n in
          ap (λ d. above_only (Some d.threshold) (c ∷ cs)) (sym head)
          ∙ drops (Some c.threshold) c cs (below-irrefl c.threshold)
          ∙ all_above_first c cs h apart
          ∙ tail
      | inr f ↦ drops (Some b.threshold) c cs (not_above_first low b.threshold c.threshold (first_above low (c ∷ cs) b rest e) f)
          ∙ above-rest low cs h.1 b rest (sym (drops low c cs f) ∙ e) n
    ]

pub above_none : (bs : List CompleteBracket) → above_only None bs ≡ bs
above_none [] = refl
above_none (b ∷ bs) = ap (λ xs. b ∷ xs) (above_none bs)

-- what is left to sum, by the lowest bracket above a threshold

record Picks (bs : List CompleteBracket) (l : Lowest) : Type 0 where
  rest : List CompleteBracket
  whole : bs ≡ l.bracket ∷ rest
  shared : l.is_shared ≡ starts_at l.bracket.threshold rest

picks : (bs : List CompleteBracket) (l : Lowest) → front_of bs ≡ Some l → Picks bs l
picks [] l e = cc
picks (b ∷ bs) l e =
    let same : record { bracket = b; is_shared = starts_at b.threshold bs } ≡ l = cc in
    let head : b ≡ l.bracket = ap (λ m. m.bracket) same in
    record {
      rest = bs;
      whole = ap (λ c. c ∷ bs) head;
      shared = ap (λ m. m.is_shared) (sym same) ∙ ap (λ c. starts_at c.threshold bs) head;
    }

picks_above : (low : Option Number) (bs : List CompleteBracket) (l : Lowest) → lowest_above low bs ≡ Some l → Picks (above_only low (in_order bs)) l
picks_above low bs l e = picks (above_only low (in_order bs)) l (sym (lowest-front low bs) ∙ e)

empty : (bs : List CompleteBracket) → front_of bs ≡ None → bs ≡ []
empty [] e = refl
empty (b ∷ bs) e = cc

pub none_if_not : {X : Type 0} (o : Option X) → ((x : X) → o ≡ Some x → ⊥) → o ≡ None
none_if_not None h = refl
none_if_not (Some x) h = absurd (h x refl)

pub sum-at_end : (t : Tally) (low : Option Number) (bs : List CompleteBracket) → lowest_above low bs ≡ None →
    sum_if_distinct t (above_only low (in_order bs)) ≡ answer_of t
sum-at_end t low bs e = ap (sum_if_distinct t) (empty (above_only low (in_order bs)) (sym (lowest-front low bs) ∙ e))

shared_first : (t : Tally) (b : CompleteBracket) (bs : List CompleteBracket) → starts_at b.threshold bs ≡ true → sum_if_distinct t (b ∷ bs) ≡ Err fault.BadScale
shared_first t b bs p = rw p refl

apart_first : (t : Tally) (b : CompleteBracket) (bs : List CompleteBracket) → starts_at b.threshold bs ≡ false → sum_if_distinct t (b ∷ bs) ≡ sum_if_distinct (tally_with t b) bs
apart_first t b bs p = rw p refl

pub sum-at_shared : (t : Tally) (low : Option Number) (bs : List CompleteBracket) (l : Lowest) → lowest_above low bs ≡ Some l → l.is_shared ≡ true →
    sum_if_distinct t (above_only low (in_order bs)) ≡ Err fault.BadScale
sum-at_shared t low bs l e p =
    let k : Picks (above_only low (in_order bs)) l = picks_above low bs l e in
    ap (sum_if_distinct t) k.whole ∙ shared_first t l.bracket k.rest (sym k.shared ∙ p)

pub sum-at_lowest : (t : Tally) (low : Option Number) (bs : List CompleteBracket) (l : Lowest) → lowest_above low bs ≡ Some l → l.is_shared ≡ false →
    sum_if_distinct t (above_only low (in_order bs)) ≡ sum_if_distinct (tally_with t l.bracket) (above_only (Some l.bracket.threshold) (in_order bs))
sum-at_lowest t low bs l e p =
    let k : Picks (above_only low (in_order bs)) l = picks_above low bs l e in
    ap (sum_if_distinct t) k.whole
    ∙ apart_first t l.bracket k.rest (sym k.shared ∙ p)
    ∙ ap (sum_if_distinct (tally_with t l.bracket)) (sym (above-rest low (in_order bs) (Sorted-in_order bs) l.bracket k.rest k.whole (sym k.shared ∙ p)))

pub fewer-above_lowest : (low : Option Number) (bs : List CompleteBracket) (l : Lowest) → lowest_above low bs ≡ Some l → l.is_shared ≡ false →
    length (above_only (Some l.bracket.threshold) (in_order bs)) < length (above_only low (in_order bs))
fewer-above_lowest low bs l e p =
    let k : Picks (above_only low (in_order bs)) l = picks_above low bs l e in
    let left : above_only (Some l.bracket.threshold) (in_order bs) ≡ k.rest = above-rest low (in_order bs) (Sorted-in_order bs) l.bracket k.rest k.whole (sym k.shared ∙ p) in
    omega (arith, ap length left, ap length k.whole)

-- brackets whose thresholds rise are in order, and no two have one threshold

record IsRising (b : CompleteBracket) (bs : List CompleteBracket) : Type 0 where
  from : AllFrom b bs
  ordered : in_order bs ≡ bs
  distinct : has_equal bs ≡ false
  apart : starts_at b.threshold bs ≡ false

put_first : (b : CompleteBracket) (bs : List CompleteBracket) → AllFrom b bs → put_in_order b bs ≡ b ∷ bs
put_first b [] h = refl
put_first b (c ∷ cs) h = put-before b c cs h.0

neither : (v w : Bool) → v ≡ false → w ≡ false → (v || w) ≡ false
neither false w p q = q
neither true w p q = cc

rises_below : (b c : CompleteBracket) (cs : List CompleteBracket) → rises_from (Some b) (c ∷ cs) ≡ true → is_below b.threshold c.threshold ≡ true
rises_below b c cs h =
    elim (decided (is_below b.threshold c.threshold)) [ inl t ↦ t | inr f ↦ let k = rw f at h in cc ]

rises_on : (b c : CompleteBracket) (cs : List CompleteBracket) → rises_from (Some b) (c ∷ cs) ≡ true → rises_from (Some c) cs ≡ true
rises_on b c cs h = let t : is_below b.threshold c.threshold ≡ true = rises_below b c cs h in rw t at h

rising : (b : CompleteBracket) (bs : List CompleteBracket) → rises_from (Some b) bs ≡ true → IsRising b bs
rising b [] h = record { from = tt; ordered = refl; distinct = refl; apart = refl }
rising b (c ∷ cs) h =
    let up : is_below b.threshold c.threshold ≡ true = rises_below b c cs h in
    let rest : IsRising c cs = rising c cs (rises_on b c cs h) in
    record {
      from = (below-asym b.threshold c.threshold up, AllFrom-lower b c cs (below-asym b.threshold c.threshold up) rest.from);
      ordered = ap (put_in_order c) rest.ordered ∙ put_first c cs rest.from;
      distinct = neither (starts_at c.threshold cs) (has_equal cs) rest.apart rest.distinct;
      apart = below_not_tied b.threshold c.threshold up;
    }

rising-ordered : (bs : List CompleteBracket) → rises_from None bs ≡ true → (in_order bs ≡ bs) × (has_equal bs ≡ false)
rising-ordered [] h = (refl, refl)
rising-ordered (b ∷ bs) h =
    let k : IsRising b bs = rising b bs h in
    (ap (put_in_order b) k.ordered ∙ put_first b bs k.from, neither (starts_at b.threshold bs) (has_equal bs) k.apart k.distinct)

-- the tally gives the sum

tally_total : (kind : ScaleKind) (base : Number) (sum : Result Number NumFault) (b : CompleteBracket) (bs : List CompleteBracket) →
    answer_of (tally_of (record { kind = kind; base = base; last = Some b; sum = sum }) bs) ≡ in_params (total kind base sum (b ∷ bs))
tally_total kind base sum b [] = refl
tally_total kind base sum b (c ∷ cs) = tally_total kind base (and_then sum (λ s. after_bracket kind base s b (Some c.threshold))) c cs

one_of : {X : Type 0} (v : Bool) (x y z : X) → y ≡ z → cond v x y ≡ cond v x z
one_of v x y z e = ap (cond v x) e

pub sum-distinct : (kind : ScaleKind) (base : Number) (bs : List CompleteBracket) → sum_if_distinct (empty_tally kind base) bs ≡ sum_of_sorted kind base bs
sum-distinct kind base [] = refl
sum-distinct kind base (b ∷ bs) = one_of (has_equal (b ∷ bs)) (Err fault.BadScale) _ _ (tally_total kind base (Ok zero_number) b bs)

rising_answer : (t : Tally) (bs : List CompleteBracket) → rises_from t.last bs ≡ true → sum_if_rising t bs ≡ Some (answer_of (tally_of t bs))
rising_answer t bs p = rw p refl

not_rising : (t : Tally) (bs : List CompleteBracket) → rises_from t.last bs ≡ false → sum_if_rising t bs ≡ None
not_rising t bs p = rw p refl

distinct_answer : (t : Tally) (bs : List CompleteBracket) → has_equal bs ≡ false → sum_if_distinct t bs ≡ answer_of (tally_of t bs)
distinct_answer t bs p = rw p refl

pub sum-rising : (kind : ScaleKind) (base : Number) (bs : List CompleteBracket) (x : Result Number ParamFault) →
    sum_if_rising (empty_tally kind base) bs ≡ Some x → x ≡ sum_of_sorted kind base (in_order bs)
sum-rising kind base bs x e =
    elim (decided (rises_from None bs)) [
      | inl t ↦
          let k : (in_order bs ≡ bs) × (has_equal bs ≡ false) = rising-ordered bs t in
          let is : Some (answer_of (tally_of (empty_tally kind base) bs)) ≡ Some x = sym (rising_answer (empty_tally kind base) bs t) ∙ e in
          let same : answer_of (tally_of (empty_tally kind base) bs) ≡ x = cc in
          sym same ∙ sym (distinct_answer (empty_tally kind base) bs k.1) ∙ sum-distinct kind base bs ∙ ap (sum_of_sorted kind base) (sym k.0)
      | inr f ↦ let none : Some x ≡ None = sym e ∙ not_rising (empty_tally kind base) bs f in cc
    ]
