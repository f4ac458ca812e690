use Rattle.std.proofs.Common.{◌≡◌, ℕ, List, map, drop}
use Rattle.std.specs.List.{position_from}
use Rattle.std.specs.Str.{bytes_eq}
use Rattle.fisca_model.specs.Tables.{otherwise, place_in}
use Rattle.indexmap.specs.IndexMap.{get}
use Rattle.fisca_symbols.proofs.members.places_of_members.Given as goal

abbrev pub invariant-loop-place : goal.invariant-loop-place
invariant-loop-place l = (t : List ℕ) → otherwise (get bytes_eq l.places t) (position_from (λ m. bytes_eq m t) l.place (map (λ m. m.0) (drop l.place l.items))) ≡ place_in (λ m. bytes_eq m t) (map (λ m. m.0) l.items)
