-- Places of variables by their names.
use Rattle.std.proofs.Common.{◌≡◌, ℕ, ◌+◌, suc, List, [], ◌∷◌, map, Bool, true, false, cond, Some, option_map, refl, ap, add-one}
use Rattle.std.specs.List.{position_from}
use Rattle.std.specs.Str.{bytes_eq}
use Rattle.fisca_model.specs.Tables.{first_where}
use Rattle.fisca_symbols.specs.KnownVariables.{variable}
use Rattle.fisca_symbols.specs.declared.variable.Variable.{Variable}

-- the place of the first
pub place_of_first : {X : Type 0} (is : X → Bool) (i : ℕ) (xs : List X) → option_map (λ p. p.0) (first_where is i xs) ≡ position_from is i xs
place_of_first is i [] = refl
place_of_first {X} is i (x ∷ xs) = by (is x) (place_of_first is (suc i) xs)
  where
    by : (b : Bool) → option_map (λ p. p.0) (first_where is (suc i) xs) ≡ position_from is (suc i) xs →
        option_map (λ p. p.0) (cond b (Some (i, x)) (first_where is (suc i) xs)) ≡ cond b (Some i) (position_from is (i + 1) xs)
    by true e = refl
    by false e = rw add-one e

-- a variable is found by its name, however it is seen
pub place_of_name : (t : List ℕ) (i : ℕ) (vs : List Variable) →
    position_from (λ v. bytes_eq v.name t) i (map variable vs) ≡ position_from (λ v. bytes_eq v.name t) i vs
place_of_name t i [] = refl
place_of_name t i (v ∷ vs) = ap (λ later. cond (bytes_eq v.name t) (Some i) later) (place_of_name t (i + 1) vs)
