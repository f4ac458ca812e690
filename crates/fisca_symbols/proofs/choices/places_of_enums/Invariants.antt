use Rattle.std.proofs.Common.{◌≡◌, ℕ, List, map, drop}
use Rattle.std.specs.List.{position_from}
use Rattle.std.specs.Str.{bytes_eq}
use Rattle.fisca_symbols.specs.KnownEnums.{choices}
use Rattle.fisca_model.specs.Tables.{otherwise, place_in}
use Rattle.indexmap.specs.IndexMap.{get}
use Rattle.fisca_symbols.proofs.choices.places_of_enums.Given as goal

abbrev pub invariant-loop-place : goal.invariant-loop-place
invariant-loop-place l = (t : List ℕ) → otherwise (get bytes_eq l.places t) (position_from (λ c. bytes_eq c.name t) l.place (map choices (drop l.place l.items))) ≡ place_in (λ c. bytes_eq c.name t) (map choices l.items)
