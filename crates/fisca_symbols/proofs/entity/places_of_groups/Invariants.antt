use Rattle.std.proofs.Common.{◌≡◌, ℕ, List, drop}
use Rattle.std.specs.List.{position_from}
use Rattle.std.specs.Str.{bytes_eq}
use Rattle.fisca_symbols.specs.KnownEntities.{entities}
use Rattle.fisca_model.specs.Tables.{otherwise, place_in, is_group_of}
use Rattle.indexmap.specs.IndexMap.{get}
use Rattle.fisca_symbols.proofs.entity.places_of_groups.Given as goal

abbrev pub invariant-loop-place : goal.invariant-loop-place
invariant-loop-place l = (t : List ℕ) → otherwise (get bytes_eq l.places t) (position_from (is_group_of t) l.place (entities (drop l.place l.items))) ≡ place_in (is_group_of t) (entities l.items)
