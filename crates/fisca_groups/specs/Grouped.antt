-- How the members of a situation group persons, as the meaning of formulas asks for it.
use Rattle.std.specs.Prelude.{ℕ, List, [], slice_get, Option, Some, None}
use Rattle.fisca_model.specs.Groups.{Groups}
use Rattle.fisca_groups.specs.Lookup.{holders_from, home_at}
use Rattle.fisca_groups.specs.declared.entity_members.EntityMembers.{EntityMembers}
use Rattle.fisca_groups.specs.declared.home.Home.{Home}
use Rattle.fisca_model.specs.declared.role_place.RolePlace.{RolePlace}
use Rattle.fisca_model.specs.Tables.{whole_role}

-- each person has a group of each kind; where there is no such person or kind, the first group and role stand for it
abbrev pub group_in : Option Home → ℕ
group_in None = 0
group_in (Some home) = home.group

abbrev pub role_in : Option Home → RolePlace
role_in None = whole_role 0
role_in (Some home) = home.role

-- the persons of a group, in their order
abbrev pub persons_of : ℕ → Option EntityMembers → List ℕ
persons_of group None = []
persons_of group (Some k) = holders_from group 0 k.homes

abbrev pub grouped : List EntityMembers → Groups
grouped ks = record {
  group_of = λ entity person. group_in (home_at ks entity person);
  role_of = λ entity person. role_in (home_at ks entity person);
  persons = λ entity group. persons_of group (slice_get ks entity);
}
