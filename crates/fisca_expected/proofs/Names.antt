-- The names of the members of an entity, where there is one.
use Rattle.std.proofs.Common.{◌≡◌, ℕ, List, [], Option, Some, None, option_map, refl}
use Rattle.fisca_groups.specs.declared.entity_members.EntityMembers.{EntityMembers}
use Rattle.fisca_expected.specs.Steps.Reading.{names_of}

pub names_there : (k : Option EntityMembers) (names : List (List ℕ)) → Some names ≡ option_map (λ (j : EntityMembers). j.names) k → names ≡ names_of k
names_there None names h = cc
names_there (Some k) names h = cc

pub no_names : (k : Option EntityMembers) → None ≡ option_map (λ (j : EntityMembers). j.names) k → [] ≡ names_of k
no_names None h = refl
no_names (Some k) h = cc
