-- Masks, and lanes that are taken out and put back.
use Rattle.std.specs.Prelude.{◌≡◌, ℕ, suc, ◌<◌, Bool, true, false, List, [], ◌∷◌, length, set}
use Rattle.fisca_vectors.specs.Vectors.{flag}

-- at each lane, the flag of c is f of those of a and b
pub record IsCombined (f : Bool → Bool → Bool) (a b c : List Bool) : Type 0 where
  pub lanes : length c ≡ length a
  pub each : (k : ℕ) → k < length a → flag c k ≡ f (flag a k) (flag b k)

-- the places of the lanes whose flag is true, where the first of them has place n
abbrev pub places_from : ℕ → List Bool → List ℕ
places_from n [] = []
places_from n (true ∷ flags) = n ∷ places_from (suc n) flags
places_from n (false ∷ flags) = places_from (suc n) flags

-- b with the first of a at the first of the places, the second at the second, and so on
abbrev pub scattered : {X : Type 0} → List ℕ → List X → List X → List X
scattered (p ∷ ps) (x ∷ xs) b = scattered ps xs (set b p x)
scattered [] xs b = b
scattered (p ∷ ps) [] b = b
