-- What is found by a name.
use Rattle.std.specs.Prelude.{◌≡◌, ℕ, List}
use Rattle.std.specs.Str.{bytes_eq}
use Rattle.fisca_model.specs.Tables.{place_in}
use Rattle.indexmap.specs.IndexMap.{IndexMap, get}

-- each text leads to the first of these names that it is
abbrev pub AreFound : {S : Type 0} → List (List ℕ) → IndexMap (List ℕ) ℕ S → Type 0
AreFound names places = (t : List ℕ) → get bytes_eq places t ≡ place_in (λ k. bytes_eq k t) names
