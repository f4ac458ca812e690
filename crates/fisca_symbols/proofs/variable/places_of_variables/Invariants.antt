use Rattle.std.proofs.Common.{◌≡◌, ℕ, List, map, drop}
use Rattle.std.specs.List.{position_from}
use Rattle.std.specs.Str.{bytes_eq}
use Rattle.fisca_symbols.specs.KnownVariables.{variable}
use Rattle.fisca_model.specs.Tables.{otherwise, place_in}
use Rattle.indexmap.specs.IndexMap.{get}
use Rattle.fisca_symbols.proofs.variable.places_of_variables.Given as goal

abbrev pub invariant-loop-place : goal.invariant-loop-place
invariant-loop-place l = (t : List ℕ) → otherwise (get bytes_eq l.places t) (position_from (λ v. bytes_eq v.name t) l.place (map variable (drop l.place l.items))) ≡ place_in (λ v. bytes_eq v.name t) (map variable l.items)
