-- The first place at which a test passes.
use Rattle.std.proofs.Common.{◌≡◌, ℕ, suc, ◌+◌, ◌++◌, List, [], ◌∷◌, length, map, Bool, true, false, cond, Option, Some, None, is_some, refl, sym, ap, ◌∙◌, arith, if◌then◌else◌, ◌||◌}
use Rattle.std.specs.List.{position_from, list_any}
use Rattle.fisca_model.specs.Tables.{otherwise, place_in}

-- with one item more
pub place_behind : {X : Type 0} (is : X → Bool) (i : ℕ) (xs : List X) (x : X)
    → otherwise (position_from is i xs) (if is x then Some (i + length xs) else None) ≡ position_from is i (xs ++ x ∷ [])
place_behind is i [] x = let same : i + 0 ≡ i = omega arith in rw same (by (is x))
  where
    by : (b : Bool) → (if b then Some i else None) ≡ cond b (Some i) None
    by true = refl
    by false = refl
place_behind {X} is i (y ∷ xs) x =
    let same : i + suc (length xs) ≡ (i + 1) + length xs = omega arith in
    rw same (by (is y) (place_behind is (i + 1) xs x))
  where
    by : (b : Bool) → otherwise (position_from is (i + 1) xs) (if is x then Some ((i + 1) + length xs) else None) ≡ position_from is (i + 1) (xs ++ x ∷ [])
        → otherwise (cond b (Some i) (position_from is (i + 1) xs)) (if is x then Some ((i + 1) + length xs) else None) ≡ cond b (Some i) (position_from is (i + 1) (xs ++ x ∷ []))
    by true e = refl
    by false e = e

-- there is one where some item passes
pub place_there : {X : Type 0} (is : X → Bool) (i : ℕ) (xs : List X) → is_some (position_from is i xs) ≡ list_any is xs
place_there is i [] = refl
place_there is i (x ∷ xs) = by (is x) (place_there is (i + 1) xs)
  where
    by : (b : Bool) → is_some (position_from is (i + 1) xs) ≡ list_any is xs → is_some (cond b (Some i) (position_from is (i + 1) xs)) ≡ (b || list_any is xs)
    by true e = refl
    by false e = e

-- through a view of the items
pub place_seen : {X Y : Type 0} (view : X → Y) (is : Y → Bool) (i : ℕ) (xs : List X) → position_from is i (map view xs) ≡ position_from (λ x. is (view x)) i xs
place_seen view is i [] = refl
place_seen view is i (x ∷ xs) = by (is (view x)) (place_seen view is (i + 1) xs)
  where
    by : (b : Bool) → position_from is (i + 1) (map view xs) ≡ position_from (λ x. is (view x)) (i + 1) xs
        → cond b (Some i) (position_from is (i + 1) (map view xs)) ≡ cond b (Some i) (position_from (λ x. is (view x)) (i + 1) xs)
    by true e = refl
    by false e = (λ j. e j)

-- a name was noted behind the others
pub noted_behind : {X : Type 0} (test : X → Bool) (xs ys : List X) (x y : X) (n : ℕ) (old new : Option ℕ)
    → y ≡ x → n ≡ length xs → ys ≡ xs ++ x ∷ [] → old ≡ place_in test xs → new ≡ otherwise old (if test y then Some n else None) → new ≡ place_in test ys
noted_behind test xs ys x y n old new same at more before after =
    let from : n ≡ 0 + length xs = omega arith in
    after ∙ (λ i. otherwise (before i) (if test (same i) then Some (from i) else None)) ∙ place_behind test 0 xs x ∙ ap (place_in test) (sym more)
