-- The members of one entity: as they are told, or each person in a group of its own.
use Rattle.std.specs.Prelude.{map, Option, option_map}
use Rattle.fisca_groups.specs.declared.entity_members.EntityMembers.{EntityMembers}
use Rattle.fisca_groups.specs.declared.home.Home.{Home}
use Rattle.fisca_members.specs.declared.kind.Kind.{Kind}
use Rattle.fisca_members.specs.declared.kind.Kind.TheVariants as v
use Rattle.fisca_model.specs.declared.role_place.RolePlace.{RolePlace}

abbrev pub with_role : RolePlace → Home → Home
with_role role home = record { group = home.group; role = role }

abbrev pub in_role : RolePlace → Option Home → Option Home
in_role role = option_map (with_role role)

-- the same groups, in which each person has this role
abbrev pub retold : RolePlace → EntityMembers → EntityMembers
retold role k = record { names = k.names; homes = map (in_role role) k.homes }

-- where these have groups of their own
abbrev pub kind_in : EntityMembers → Kind → EntityMembers
kind_in owners (v.Told k) = k
kind_in owners (v.Own role) = retold role owners
