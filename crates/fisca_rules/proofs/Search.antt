-- The formula that the days of starts lead to is the one in force.
use Rattle.std.proofs.Common.{◌≡◌, refl, sym, ap, ◌∙◌, ℕ, suc, ◌+◌, ◌<◌, List, [], ◌∷◌, ◌++◌, map, length, drop, drop-cons, get_or, Bool, true, false, Option, Some, None, option_map, arith}
use Rattle.std.specs.Prelude.{IsSome, is_some, if◌then◌else◌, ⊤}
use Rattle.std.specs.List.{slice_get}
use Rattle.std.specs.Option.{unwrap_or}
use Rattle.std.specs.BTreeMap.{BTreeMap, get, Updates}
use Rattle.std.specs.BTreeMap.Range.{IsRangeOf}
use Rattle.std.specs.declared.ops.Bound.TheVariants.{Included, Unbounded}
use Rattle.std.specs.Ordering.{is_eq, is_gt, is_lt, ordering_reverse}
use Rattle.std.specs.declared.cmp.Ordering.{Ordering}
use Rattle.std.specs.declared.cmp.Ordering.TheVariants.{Less, Equal, Greater}
use Rattle.std.proofs.lemmas.Cmp.{tied_itself}
use Rattle.fisca_scales.proofs.Latest.{date_total}
use Rattle.fisca_time.specs.Instant.{CivilDate, date_cmp}
use Rattle.fisca_rules.specs.Rules as rules
use Rattle.fisca_rules.specs.Starts.{place_from, AreStarts, IsLastStart, NoneStarts}
use Rattle.fisca_rules.specs.Steps.InForce.{later, latest_with, latest_of, in_force}
use Rattle.fisca_rules.specs.Views.{dated}
use Rattle.fisca_rules.specs.declared.dated.DatedFormula.{DatedFormula}

some_is : {X : Type 0} (x y : X) → Some x ≡ Some y → x ≡ y
some_is x y h = ap (λ o. unwrap_or o x) h

not_some : {X : Type 0} (x : X) → ◌≡◌ {A = Option X} None (Some x) → ⊥
not_some x h = cc

-- What orderings say

equal_from : (o : Ordering) → is_eq o ≡ true → o ≡ Equal
equal_from Less h = cc
equal_from Equal h = refl
equal_from Greater h = cc

not_after : (o : Ordering) → is_lt o ≡ false → is_gt (ordering_reverse o) ≡ false
not_after Less h = cc
not_after Equal h = refl
not_after Greater h = refl

after_from : (o : Ordering) → is_lt o ≡ true → is_gt (ordering_reverse o) ≡ true
after_from Less h = refl
after_from Equal h = cc
after_from Greater h = cc

before_from : (o : Ordering) → is_eq o ≡ false → is_lt (ordering_reverse o) ≡ false → is_lt o ≡ true
before_from Less e h = refl
before_from Equal e h = cc
before_from Greater e h = cc

starts_itself : (day : CivilDate) → is_eq (date_cmp day day) ≡ true
starts_itself day = ap is_eq (tied_itself date_total day)

-- The first formula that starts on a day

abbrev first_on : CivilDate → List DatedFormula → Option DatedFormula
first_on day [] = None
first_on day (d ∷ ds) = if is_eq (date_cmp d.start day) then Some d else first_on day ds

here_on : (day : CivilDate) (d : DatedFormula) (ds : List DatedFormula) → is_eq (date_cmp d.start day) ≡ true → first_on day (d ∷ ds) ≡ Some d
here_on day d ds e = rw e refl

behind_on : (day : CivilDate) (d : DatedFormula) (ds : List DatedFormula) → is_eq (date_cmp d.start day) ≡ false → first_on day (d ∷ ds) ≡ first_on day ds
behind_on day d ds e = rw e refl

place_here : (n : ℕ) (day : CivilDate) (d : DatedFormula) (ds : List DatedFormula) → is_eq (date_cmp d.start day) ≡ true → place_from n (d ∷ ds) day ≡ Some n
place_here n day d ds e = rw e refl

place_behind : (n : ℕ) (day : CivilDate) (d : DatedFormula) (ds : List DatedFormula) → is_eq (date_cmp d.start day) ≡ false → place_from n (d ∷ ds) day ≡ place_from (suc n) ds day
place_behind n day d ds e = rw e refl

-- where it stands
record Stands (n : ℕ) (ds : List DatedFormula) (day : CivilDate) (place : ℕ) : Type 0 where
  behind : ℕ
  formula : DatedFormula
  is : place ≡ behind + n
  there : slice_get ds behind ≡ Some formula
  first : first_on day ds ≡ Some formula

stands : (n : ℕ) (ds : List DatedFormula) (day : CivilDate) (place : ℕ) → place_from n ds day ≡ Some place → Stands n ds day place
stands n [] day place h = absurd (not_some place h)
stands n (d ∷ ds) day place h = by (stands (suc n) ds day place) (is_eq (date_cmp d.start day)) refl
  where
    by : (place_from (suc n) ds day ≡ Some place → Stands (suc n) ds day place) → (b : Bool) → is_eq (date_cmp d.start day) ≡ b → Stands n (d ∷ ds) day place
    by rest true e =
        let same : n ≡ place = some_is n place (sym (place_here n day d ds e) ∙ h) in
        record { behind = 0; formula = d; is = omega (arith, same); there = refl; first = here_on day d ds e }
    by rest false e =
        let r = rest (sym (place_behind n day d ds e) ∙ h) in
        record { behind = suc r.behind; formula = r.formula; is = omega (arith, r.is); there = r.there; first = behind_on day d ds e ∙ r.first }

-- Of these, those that start by the day do not start after another day

abbrev AllUpTo : CivilDate → CivilDate → List DatedFormula → Type 0
AllUpTo day start [] = ⊤
AllUpTo day start (d ∷ ds) = (is_gt (date_cmp d.start day) ≡ false → is_lt (date_cmp start d.start) ≡ false) × AllUpTo day start ds

all_upto : (n : ℕ) (day start : CivilDate) (ds : List DatedFormula) →
    ((other : CivilDate) → is_gt (date_cmp other day) ≡ false → IsSome (place_from n ds other) → is_lt (date_cmp start other) ≡ false) → AllUpTo day start ds
all_upto n day start [] h = tt
all_upto n day start (d ∷ ds) h =
    (λ s. h d.start s (ap is_some (place_here n d.start d ds (starts_itself d.start))), all_upto (suc n) day start ds (λ other s some. h other s (more other some (is_eq (date_cmp d.start other)) refl)))
  where
    more : (other : CivilDate) → IsSome (place_from (suc n) ds other) → (b : Bool) → is_eq (date_cmp d.start other) ≡ b → IsSome (place_from n (d ∷ ds) other)
    more other some true e = ap is_some (place_here n other d ds e)
    more other some false e = ap is_some (place_behind n other d ds e) ∙ some

-- what is found with one more
with_later : (day : CivilDate) (found : Option rules.DatedFormula) (e : rules.DatedFormula) → is_gt (date_cmp e.start day) ≡ false → latest_with day found e ≡ Some (later found e)
with_later day found e s = rw s refl

with_none : (day : CivilDate) (found : Option rules.DatedFormula) (e : rules.DatedFormula) → is_gt (date_cmp e.start day) ≡ true → latest_with day found e ≡ found
with_none day found e s = rw s refl

later_left : (e d : rules.DatedFormula) → is_gt (date_cmp d.start e.start) ≡ false → later (Some e) d ≡ e
later_left e d g = rw g refl

later_right : (e d : rules.DatedFormula) → is_gt (date_cmp d.start e.start) ≡ true → later (Some e) d ≡ d
later_right e d g = rw g refl

-- what starts on the other day stays
stays : (day start : CivilDate) (e : rules.DatedFormula) (ds : List DatedFormula) → date_cmp e.start start ≡ Equal → AllUpTo day start ds → latest_of day (Some e) (map dated ds) ≡ Some e
stays day start e [] tie h = refl
stays day start e (d ∷ ds) tie h = by (stays day start e ds tie h.1) (is_gt (date_cmp d.start day)) refl
  where
    by : latest_of day (Some e) (map dated ds) ≡ Some e → (b : Bool) → is_gt (date_cmp d.start day) ≡ b → latest_of day (Some e) (map dated (d ∷ ds)) ≡ Some e
    by rest true s = ap (λ o. latest_of day o (map dated ds)) (with_none day (Some e) (dated d) s) ∙ rest
    by rest false s =
        let none : is_gt (date_cmp d.start e.start) ≡ false =
        ap is_gt (date_total.antisymm d.start e.start) ∙ not_after (date_cmp e.start d.start) (ap is_lt (date_total.congr e.start start d.start tie) ∙ h.0 s) in
        let same : latest_with day (Some e) (dated d) ≡ Some e = with_later day (Some e) (dated d) s ∙ ap (λ f. Some f) (later_left e (dated d) none) in
        ap (λ o. latest_of day o (map dated ds)) same ∙ rest

-- what is found so far starts before a day
abbrev IsEarlier : CivilDate → Option rules.DatedFormula → Type 0
IsEarlier start None = ⊤
IsEarlier start (Some f) = is_lt (date_cmp f.start start) ≡ true

later_is : (start : CivilDate) (found : Option rules.DatedFormula) (e : rules.DatedFormula) → IsEarlier start found → date_cmp e.start start ≡ Equal → later found e ≡ e
later_is start None e h tie = refl
later_is start (Some f) e h tie =
    let after : is_gt (date_cmp e.start f.start) ≡ true =
    ap is_gt (date_total.congr e.start start f.start tie ∙ date_total.antisymm start f.start) ∙ after_from (date_cmp f.start start) h in
    later_right f e after

earlier_with : (start : CivilDate) (found : Option rules.DatedFormula) (e : rules.DatedFormula) → IsEarlier start found → is_lt (date_cmp e.start start) ≡ true → IsEarlier start (Some (later found e))
earlier_with start None e h b = b
earlier_with start (Some f) e h b = by (is_gt (date_cmp e.start f.start)) refl
  where
    by : (g : Bool) → is_gt (date_cmp e.start f.start) ≡ g → is_lt (date_cmp (later (Some f) e).start start) ≡ true
    by true g = ap (λ x. is_lt (date_cmp x.start start)) (later_right f e g) ∙ b
    by false g = ap (λ x. is_lt (date_cmp x.start start)) (later_left f e g) ∙ h

latest_is : (day start : CivilDate) (found : Option rules.DatedFormula) (ds : List DatedFormula) (e : DatedFormula) → first_on start ds ≡ Some e → is_gt (date_cmp start day) ≡ false →
    AllUpTo day start ds → IsEarlier start found → latest_of day found (map dated ds) ≡ Some (dated e)
latest_is day start found [] e is s h before = absurd (not_some e is)
latest_is day start found (d ∷ ds) e is s h before =
    by (λ found' is' before'. latest_is day start found' ds e is' s h.1 before') (is_eq (date_cmp d.start start)) refl (is_gt (date_cmp d.start day)) refl
  where
    by : ((found' : Option rules.DatedFormula) → first_on start ds ≡ Some e → IsEarlier start found' → latest_of day found' (map dated ds) ≡ Some (dated e)) →
        (b : Bool) → is_eq (date_cmp d.start start) ≡ b → (c : Bool) → is_gt (date_cmp d.start day) ≡ c → latest_of day found (map dated (d ∷ ds)) ≡ Some (dated e)
    by rest true same c s' =
        let tie : date_cmp d.start start ≡ Equal = equal_from (date_cmp d.start start) same in
        let begun : is_gt (date_cmp d.start day) ≡ false = ap is_gt (date_total.congr d.start start day tie) ∙ s in
        let here : d ≡ e = some_is d e (sym (here_on start d ds same) ∙ is) in
        let now : latest_with day found (dated d) ≡ Some (dated d) = with_later day found (dated d) begun ∙ ap (λ f. Some f) (later_is start found (dated d) before tie) in
        ap (λ o. latest_of day o (map dated ds)) now ∙ stays day start (dated d) ds tie h.1 ∙ ap (λ f. Some (dated f)) here
    by rest false other true s' =
        ap (λ o. latest_of day o (map dated ds)) (with_none day found (dated d) s') ∙ rest found (sym (behind_on start d ds other) ∙ is) before
    by rest false other false s' =
        let not_later : is_lt (ordering_reverse (date_cmp d.start start)) ≡ false = ap is_lt (sym (date_total.antisymm start d.start)) ∙ h.0 s' in
        let earlier : IsEarlier start (Some (later found (dated d))) = earlier_with start found (dated d) before (before_from (date_cmp d.start start) other not_later) in
        ap (λ o. latest_of day o (map dated ds)) (with_later day found (dated d) s') ∙ rest (Some (later found (dated d))) (sym (behind_on start d ds other) ∙ is) earlier

-- where none has started
none_is : (n : ℕ) (day : CivilDate) (ds : List DatedFormula) → ((other : CivilDate) → is_gt (date_cmp other day) ≡ false → place_from n ds other ≡ None) → latest_of day None (map dated ds) ≡ None
none_is n day [] h = refl
none_is n day (d ∷ ds) h = by (none_is (suc n) day ds (λ other s. less other (h other s) (is_eq (date_cmp d.start other)) refl)) (is_gt (date_cmp d.start day)) refl
  where
    less : (other : CivilDate) → place_from n (d ∷ ds) other ≡ None → (b : Bool) → is_eq (date_cmp d.start other) ≡ b → place_from (suc n) ds other ≡ None
    less other none true e = absurd (not_some n (sym none ∙ place_here n other d ds e))
    less other none false e = sym (place_behind n other d ds e) ∙ none

    by : latest_of day None (map dated ds) ≡ None → (b : Bool) → is_gt (date_cmp d.start day) ≡ b → latest_of day None (map dated (d ∷ ds)) ≡ None
    by rest true s = ap (λ o. latest_of day o (map dated ds)) (with_none day None (dated d) s) ∙ rest
    by rest false s = absurd (not_some n (sym (h d.start s) ∙ place_here n d.start d ds (starts_itself d.start)))

-- What a search finds

pub found_last : (day : CivilDate) (m : BTreeMap CivilDate ℕ) (ds : List DatedFormula) (place : ℕ) → AreStarts m ds → IsLastStart day m place →
    option_map dated (slice_get ds place) ≡ in_force day (map dated ds)
found_last day m ds place are last =
    let start : CivilDate = last.0 in
    let r : Stands 0 ds start place = stands 0 ds start place (sym (are start) ∙ last.1) in
    let same : place ≡ r.behind = omega (arith, r.is) in
    let upto : AllUpTo day start ds = all_upto 0 day start ds (λ other s some. last.3 other s (ap is_some (are other) ∙ some)) in
    ap (λ k. option_map dated (slice_get ds k)) same ∙ ap (option_map dated) r.there ∙ sym (latest_is day start None ds r.formula r.first last.2 upto tt)

pub found_none : (day : CivilDate) (m : BTreeMap CivilDate ℕ) (ds : List DatedFormula) → AreStarts m ds → NoneStarts day m → in_force day (map dated ds) ≡ None
found_none day m ds are none = none_is 0 day ds (λ other s. sym (are other) ∙ none other s)

-- What is noted

pub one_more : (m n : BTreeMap CivilDate ℕ) (ds : List DatedFormula) (i : ℕ) (x : DatedFormula) → i < length ds → Updates date_cmp m n (get_or ds i x).start (Some i) →
    ((day : CivilDate) → get date_cmp m day ≡ place_from (i + 1) (drop (i + 1) ds) day) → (day : CivilDate) → get date_cmp n day ≡ place_from i (drop i ds) day
one_more m n ds i x inside updates before day =
    let d : DatedFormula = get_or ds i x in
    let more : i + 1 ≡ suc i = omega arith in
    let after : get date_cmp m day ≡ place_from (suc i) (drop (suc i) ds) day = before day ∙ ap (λ k. place_from k (drop k ds) day) more in
    updates.0 day ∙ ap (λ o. if is_eq (date_cmp d.start day) then Some i else o) after ∙ ap (λ xs. place_from i xs day) (sym (drop-cons ds i x inside))

pub all_noted : (m : BTreeMap CivilDate ℕ) (ds : List DatedFormula) (place : ℕ) → ((day : CivilDate) → get date_cmp m day ≡ place_from place (drop place ds) day) → place ≡ 0 → AreStarts m ds
all_noted m ds place h none day = h day ∙ ap (λ k. place_from k (drop k ds) day) none

-- What a range of days ends with

pub last_of : (day : CivilDate) (m : BTreeMap CivilDate ℕ) (r t : List (CivilDate × ℕ)) (e : CivilDate × ℕ) → IsRangeOf date_cmp Unbounded (Included day) m r → r ≡ t ++ e ∷ [] → IsLastStart day m e.1
last_of day m r t e all is =
    let last = all.3 e t is in
    (e.0, last.1, last.0.1, λ other s some. all.4 e t is other (tt, s) some)

pub none_of : (day : CivilDate) (m : BTreeMap CivilDate ℕ) (r : List (CivilDate × ℕ)) → IsRangeOf date_cmp Unbounded (Included day) m r → r ≡ [] → NoneStarts day m
none_of day m r all is other s = all.5 is other (tt, s)
