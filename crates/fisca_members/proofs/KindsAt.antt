-- The members of the entity at a place.
use Rattle.std.proofs.Common.{◌≡◌, ℕ, List, map, Option, slice_get, option_map, sym, ◌∙◌, ap}
use Rattle.std.proofs.lemmas.Option.{slice_get-map}
use Rattle.fisca_groups.specs.declared.entity_members.EntityMembers.{EntityMembers}
use Rattle.fisca_members.specs.declared.kind.Kind.{Kind}
use Rattle.fisca_members.specs.Owned.{kind_in}

-- a look-up among the kinds tells the members that stand there
pub kind_at : (owners : EntityMembers) (ks ds : List Kind) (ms : List EntityMembers) (place : ℕ) (found : Option Kind)
    → map (kind_in owners) ks ≡ ms → ds ≡ ks → slice_get ds place ≡ found → slice_get ms place ≡ option_map (kind_in owners) found
kind_at owners ks ds ms place found seen same at =
    ap (λ (xs : List EntityMembers). slice_get xs place) (sym seen)
    ∙ (slice_get-map (kind_in owners) ks place ∙ ap (option_map (kind_in owners)) (ap (λ (xs : List Kind). slice_get xs place) (sym same) ∙ at))
