use Rattle.std.proofs.Common.{◌≡◌, ℕ, List, drop}
use Rattle.std.specs.List.{position_from}
use Rattle.std.specs.Str.{bytes_eq}
use Rattle.fisca_symbols.specs.KnownEntities.{entities}
use Rattle.fisca_model.specs.Tables.{otherwise, place_in}
use Rattle.indexmap.specs.IndexMap.{get}
use Rattle.fisca_symbols.proofs.entity.places_of_constants.Given as goal

abbrev pub invariant-loop-place : goal.invariant-loop-place
invariant-loop-place l = (t : List ℕ) → otherwise (get bytes_eq l.places t) (position_from (λ e. bytes_eq e.constant t) l.place (entities (drop l.place l.items))) ≡ place_in (λ e. bytes_eq e.constant t) (entities l.items)
