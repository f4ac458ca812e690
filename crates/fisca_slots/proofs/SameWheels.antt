-- Wheels that have the same place at two positions give their axes the same values there.
use Rattle.std.proofs.Common.{◌≡◌, true≢false, arith, inl, inr, ◌≤◌, ℕ, zero, suc, ◌%◌, ◌/◌, List, [], ◌∷◌, ◌++◌, map, drop, false, Option, Some, None, slice_get, refl, sym, ap, subst, ◌∙◌}
use Rattle.std.specs.Prelude.{⊤, Result, Ok, Err, nat_lt}
use Rattle.std.proofs.lemmas.Bool.{cases_lt, lt-ltb}
use Rattle.fisca_grid.specs.Axes.{step_of}
use Rattle.fisca_grid.specs.AxesRow.{before_values, values_of}
use Rattle.fisca_grid.specs.Grid.{axes_at, count_of, counts_of}
use Rattle.fisca_grid.specs.declared.axes.AxisSpec.{AxisSpec}
use Rattle.fisca_writer.specs.Odometer.{places_at}
use Rattle.fisca_num.specs.Number.{Number}
use Rattle.fisca_num.specs.declared.faults.NumFault.{NumFault}
use Rattle.fisca_slots.specs.Turning.{IsSamePlace, wheels_from}

-- values of wheels of which this holds are the same
abbrev pub Same : (ℕ → Type 0) → List ℕ → List Number → List Number → Type 0
Same S [] ps qs = ⊤
Same S (w ∷ ws) [] qs = ⊤
Same S (w ∷ ws) (p ∷ ps) [] = ⊤
Same S (w ∷ ws) (p ∷ ps) (q ∷ qs) = (S w → p ≡ q) × Same S ws ps qs

pub same_for : (S T : ℕ → Type 0) → ((w : ℕ) → T w → S w) → (ws : List ℕ) (ps qs : List Number) → Same S ws ps qs → Same T ws ps qs
same_for S T narrower [] ps qs same = tt
same_for S T narrower (w ∷ ws) [] qs same = tt
same_for S T narrower (w ∷ ws) (p ∷ ps) [] same = tt
same_for S T narrower (w ∷ ws) (p ∷ ps) (q ∷ qs) same = (λ t. same.0 (narrower w t), same_for S T narrower ws ps qs same.1)

-- places of wheels from this one on are the same
abbrev Places : (ℕ → Type 0) → ℕ → List ℕ → List ℕ → Type 0
Places S w [] ys = ⊤
Places S w (x ∷ xs) [] = ⊤
Places S w (x ∷ xs) (y ∷ ys) = (S w → x ≡ y) × Places S (suc w) xs ys

places_later : (S : ℕ → Type 0) (w : ℕ) (xs ys : List ℕ) → Places (λ v. S (suc v)) w xs ys → Places S (suc w) xs ys
places_later S w [] ys same = tt
places_later S w (x ∷ xs) [] same = tt
places_later S w (x ∷ xs) (y ∷ ys) same = (same.0, places_later S (suc w) xs ys same.1)

places_here : (xs ys : List ℕ) → Places (IsSamePlace xs ys) 0 xs ys
places_here [] ys = tt
places_here (x ∷ xs) [] = tt
places_here (x ∷ xs) (y ∷ ys) = (λ e. let h : Some x ≡ Some y = e in cc, places_later (IsSamePlace (x ∷ xs) (y ∷ ys)) 0 xs ys (places_here xs ys))

-- Values

record Before (r : Result Number NumFault) (o : Option (List Number)) (vs : List Number) : Type 0 where
  first : Number
  others : List Number
  is : r ≡ Ok first
  are : o ≡ Some others
  all : vs ≡ first ∷ others

before : (r : Result Number NumFault) (o : Option (List Number)) (vs : List Number) → before_values r o ≡ Some vs → Before r o vs
before (Ok v) None vs h = cc
before (Ok v) (Some ws) vs h = let same : v ∷ ws ≡ vs = cc in record { first = v; others = ws; is = refl; are = refl; all = sym same }
before (Err f) o vs h = cc

module _ (S : ℕ → Type 0) where
  -- the axes of a group
  group_same : (w x y : ℕ) (group : List AxisSpec) (here there : List (AxisSpec × ℕ)) (ws : List ℕ) (ps qs : List Number) → (S w → x ≡ y)
      → values_of (map (λ axis. (axis, x)) group ++ here) ≡ Some ps → values_of (map (λ axis. (axis, y)) group ++ there) ≡ Some qs
      → ((us vs : List Number) → values_of here ≡ Some us → values_of there ≡ Some vs → Same S ws us vs) → Same S (map (λ axis. w) group ++ ws) ps qs
  group_same w x y [] here there ws ps qs place one two more = more ps qs one two
  group_same w x y (axis ∷ group) here there ws ps qs place one two more =
      let a = before (step_of axis x) (values_of (map (λ axis. (axis, x)) group ++ here)) ps one in
      let b = before (step_of axis y) (values_of (map (λ axis. (axis, y)) group ++ there)) qs two in
      let rest = group_same w x y group here there ws a.others b.others place a.are b.are more in
      let value : S w → a.first ≡ b.first = λ s. let e : Ok a.first ≡ Ok b.first = sym a.is ∙ (ap (step_of axis) (place s) ∙ b.is) in cc in
      subst (λ us. Same S (w ∷ (map (λ axis. w) group ++ ws)) us qs) (sym a.all)
      (subst (λ vs. Same S (w ∷ (map (λ axis. w) group ++ ws)) (a.first ∷ a.others) vs) (sym b.all) (value, rest))

  values_same : (w : ℕ) (groups : List (List AxisSpec)) (p q : ℕ) (ps qs : List Number)
      → Places S w (places_at (counts_of groups) p) (places_at (counts_of groups) q) → values_of (axes_at groups p) ≡ Some ps
      → values_of (axes_at groups q) ≡ Some qs → Same S (wheels_from w groups) ps qs
  values_same w [] p q ps qs places one two = tt
  values_same w (group ∷ groups) p q ps qs places one two =
      group_same w (p % count_of group) (q % count_of group) group (axes_at groups (p / count_of group)) (axes_at groups (q / count_of group))
      (wheels_from (suc w) groups) ps qs places.0 one two
      (λ us vs here there. values_same (suc w) groups (p / count_of group) (q / count_of group) us vs places.1 here there)

-- where a group has the same place, its axes have the same values
pub values_at_places : (groups : List (List AxisSpec)) (p q : ℕ) (ps qs : List Number) → values_of (axes_at groups p) ≡ Some ps
    → values_of (axes_at groups q) ≡ Some qs
    → Same (IsSamePlace (places_at (counts_of groups) p) (places_at (counts_of groups) q)) (wheels_from 0 groups) ps qs
values_at_places groups p q ps qs one two =
    values_same (IsSamePlace (places_at (counts_of groups) p) (places_at (counts_of groups) q)) 0 groups p q ps qs
    (places_here (places_at (counts_of groups) p) (places_at (counts_of groups) q)) one two

-- from a place on
from_place : (t : ℕ) (xs ys : List ℕ) → drop t xs ≡ drop t ys → (w : ℕ) → t ≤ w → slice_get xs w ≡ slice_get ys w
from_place zero xs ys same w h = ap (λ zs. slice_get zs w) same
from_place (suc t) xs ys same zero h = absurd (omega (arith, h))
from_place (suc t) [] [] same (suc w) h = refl
from_place (suc t) [] (y ∷ ys) same (suc w) h = from_place t [] ys (none_left t ∙ same) w (omega (arith, h))
  where
    none_left : (t : ℕ) → drop {A = ℕ} t [] ≡ []
    none_left zero = refl
    none_left (suc t) = refl
from_place (suc t) (x ∷ xs) [] same (suc w) h = from_place t xs [] (same ∙ none_left t) w (omega (arith, h))
  where
    none_left : (t : ℕ) → [] ≡ drop {A = ℕ} t []
    none_left zero = refl
    none_left (suc t) = refl
from_place (suc t) (x ∷ xs) (y ∷ ys) same (suc w) h = from_place t xs ys same w (omega (arith, h))

pub same_from : (t : ℕ) (xs ys : List ℕ) → drop t xs ≡ drop t ys → (w : ℕ) → nat_lt w t ≡ false → IsSamePlace xs ys w
same_from t xs ys same w h = from_place t xs ys same w (elim (cases_lt w t) [
  | inl less ↦ absurd (true≢false (sym (lt-ltb w t less) ∙ h))
  | inr more ↦ more
])
