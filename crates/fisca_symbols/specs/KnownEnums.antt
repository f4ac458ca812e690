-- What formulas may name of Enums.
use Rattle.std.specs.Prelude.{◌≡◌, ℕ, List, map}
use Rattle.std.specs.Str.{bytes_eq}
use Rattle.fisca_symbols.specs.declared.choices.Choices.{Choices}
use Rattle.fisca_model.specs.Tables as typing
use Rattle.indexmap.specs.IndexMap.{IndexMap, get}

abbrev pub choices : Choices → typing.Choices
choices c = record { name = c.name; members = map (λ m. m.0) c.members }

-- each text leads to the first Enum of this name
abbrev pub AreFound : {S : Type 0} → List Choices → IndexMap (List ℕ) ℕ S → Type 0
AreFound cs names = (t : List ℕ) → get bytes_eq names t ≡ typing.place_in (λ c. bytes_eq c.name t) (map choices cs)
