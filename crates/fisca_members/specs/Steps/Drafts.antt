-- The steps of code behind `Members`: what is given of each entity, and then the groups of their own.
use Rattle.std.specs.Prelude.{ℕ, suc, List, [], ◌∷◌, ◌++◌, map, length, replicate, slice_get, ◌≡◌, true, if◌then◌else◌, Option, Some, None, Result, Ok}
use Rattle.fisca_num.specs.Results.{and_then}
use Rattle.fisca_model.specs.Tables.{Entity, whole_role}
use Rattle.fisca_groups.specs.declared.entity_members.EntityMembers.{EntityMembers}
use Rattle.fisca_members.specs.declared.fault.MembersFault.{MembersFault}
use Rattle.fisca_members.specs.declared.person.Person.{Person}
use Rattle.fisca_members.specs.declared.own.Owners.{Owners}
use Rattle.fisca_members.specs.Steps.Groups.{first_role, own_from}

-- where nothing is given no group holds a person
abbrev pub given_or : List Person → Option EntityMembers → EntityMembers
given_or ps None = record { names = []; homes = replicate (length ps) None }
given_or ps (Some k) = k

abbrev pub drafted : List Person → List (Option EntityMembers) → List EntityMembers
drafted ps = map (given_or ps)

-- groups of their own of this entity, where there is one
abbrev pub own_if : List Person → EntityMembers → Option Entity → Result EntityMembers MembersFault
own_if ps k None = Ok k
own_if ps k (Some e) = if e.is_person then Ok k else own_from (first_role e.roles) k 0 ps

-- the members so far, and those of the entities from this one on
abbrev pub kinds_from : List Person → List Entity → ℕ → List EntityMembers → List EntityMembers → Result (List EntityMembers) MembersFault
kinds_from ps es place done [] = Ok done
kinds_from ps es place done (k ∷ ks) = and_then (own_if ps k (slice_get es place)) (λ j. kinds_from ps es (suc place) (done ++ j ∷ []) ks)

-- what kinds share is each person in a group of its own
abbrev pub AreShared : List Person → Owners → Type 0
AreShared ps o = o.are_shared ≡ true → own_from (whole_role 0) (given_or ps None) 0 ps ≡ Ok o.told
