-- The first that passes a test, by its place.
use Rattle.std.proofs.Common.{◌≡◌, ℕ, suc, ◌+◌, ◌-◌, ◌≤◌, List, [], ◌∷◌, Bool, true, false, cond, Some, None, option_map, slice_get, map, refl, ◌∙◌, ap, add-one, arith}
use Rattle.std.proofs.lemmas.Option.{slice_get-map}
use Rattle.std.specs.List.{position_from}
use Rattle.fisca_model.specs.Tables.{first_where, place_in}

module _ {X : Type 0} (is : X → Bool) where
  pub first_none : (i : ℕ) (xs : List X) → position_from is i xs ≡ None → first_where is i xs ≡ None
  first_none i [] h = refl
  first_none i (x ∷ xs) h = by (is x) (λ e. first_none (suc i) xs e) h
    where
      by : (b : Bool) → (position_from is (suc i) xs ≡ None → first_where is (suc i) xs ≡ None) → cond b (Some i) (position_from is (i + 1) xs) ≡ None → cond b (Some (i, x)) (first_where is (suc i) xs) ≡ None
      by true more e = cc
      by false more e = more (rw add-one at e)

  pub first_some : (i p : ℕ) (xs : List X) → position_from is i xs ≡ Some p
      → (i ≤ p) × (first_where is i xs ≡ option_map (λ x. (p, x)) (slice_get xs (p - i)))
  first_some i p [] h = cc
  first_some i p (x ∷ xs) h = by (is x) (λ e. first_some (suc i) p xs e) h
    where
      by : (b : Bool) → (position_from is (suc i) xs ≡ Some p → (suc i ≤ p) × (first_where is (suc i) xs ≡ option_map (λ y. (p, y)) (slice_get xs (p - suc i)))) → cond b (Some i) (position_from is (i + 1) xs) ≡ Some p
          → (i ≤ p) × (cond b (Some (i, x)) (first_where is (suc i) xs) ≡ option_map (λ y. (p, y)) (slice_get (x ∷ xs) (p - i)))
      by true more e =
          let same : i ≡ p = cc in
          let none : p - i ≡ 0 = omega arith in
          (omega arith, rw (none, same) refl)
      by false more e =
          let later = more (rw add-one at e) in
          let next : p - i ≡ suc (p - suc i) = omega arith in
          (omega arith, rw next later.1)

-- through a view of the items
pub first_seen : {X Y : Type 0} (view : X → Y) (is : Y → Bool) (p : ℕ) (x : X) (xs : List X)
    → place_in is (map view xs) ≡ Some p → slice_get xs p ≡ Some x → first_where is 0 (map view xs) ≡ Some (p, view x)
first_seen {X} {Y} view is p x xs h at =
    let from : p - 0 ≡ p = omega arith in
    (first_some is 0 p (map view xs) h).1 ∙ rw from (ap (option_map (λ (y : Y). (p, y))) (slice_get-map view xs p ∙ ap (option_map view) at))

-- what stands first somewhere stands there
pub first_there : {X Y : Type 0} (view : X → Y) (is : Y → Bool) (p : ℕ) (xs : List X)
    → place_in is (map view xs) ≡ Some p → slice_get xs p ≡ None → first_where is 0 (map view xs) ≡ None
first_there {X} {Y} view is p xs h at =
    let from : p - 0 ≡ p = omega arith in
    (first_some is 0 p (map view xs) h).1 ∙ rw from (ap (option_map (λ (y : Y). (p, y))) (slice_get-map view xs p ∙ ap (option_map view) at))
