-- What is looked up.
use Rattle.std.proofs.Common.{◌≡◌, ℕ, List, map, slice_get, option_map}
use Rattle.std.proofs.lemmas.Option.{slice_get-map}

pub formulas_there : {A B : Type 0} (v : A → B) (xs : List A) (k : ℕ) → slice_get (map v xs) k ≡ option_map v (slice_get xs k)
formulas_there v xs k = slice_get-map v xs k
