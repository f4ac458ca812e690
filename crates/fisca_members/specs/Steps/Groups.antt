-- The steps of code behind `Groups`:
-- The groups of an input, and which person belongs to which, in which role.
use Rattle.std.specs.Prelude.{ℕ, suc, List, [], ◌∷◌, ◌++◌, map as list_map, length, Bool, false, ◌==◌, nat_le, slice_get, if◌then◌else◌, Option, Some, None, Result, Ok}
use Rattle.std.specs.Str.{bytes_eq}
use Rattle.fisca_num.specs.Results.{and_then}
use Rattle.fisca_model.specs.declared.role_place.RolePlace.{RolePlace}
use Rattle.fisca_symbols.specs.KnownRoles.{title}
use Rattle.fisca_model.specs.Tables.{Role, most, place_in, subrole_of, whole_role}
use Rattle.fisca_yaml.specs.Node.{Node, null, scalar, list, map, Items, no_items, item, Entries, no_entries, entry}
use Rattle.fisca_groups.specs.Homes.{held_by}
use Rattle.fisca_groups.specs.Steps.Homes.{is_held}
use Rattle.fisca_members.specs.declared.fault.MembersKind.TheVariants as kind
use Rattle.fisca_groups.specs.declared.entity_members.EntityMembers.{EntityMembers}
use Rattle.fisca_members.specs.declared.fault.MembersFault.{MembersFault}
use Rattle.fisca_groups.specs.declared.home.Home.{Home}
use Rattle.fisca_members.specs.declared.person.Person.{Person}
use Rattle.fisca_members.specs.Steps.Faults.{bad_value, entries_at, fault_at}
use Rattle.fisca_members.specs.Steps.Persons.{person_named, room}
use Rattle.fisca_members.specs.Sections.{Section}
use Rattle.fisca_members.specs.Groups.{Post}

-- Roles

abbrev pub role_titles : List Role → List (List ℕ)
role_titles = list_map title

abbrev pub role_named : List Role → List ℕ → Option ℕ
role_named rs t = place_in (λ k. bytes_eq k t) (role_titles rs)

-- persons of a role with subroles take these in order
abbrev pub taken : ℕ → Role → ℕ → RolePlace
taken place r count = if length r.subroles == 0 then whole_role place else subrole_of place count

-- so many persons have it, and no more can
abbrev pub is_full : Option ℕ → ℕ → Bool
is_full None count = false
is_full (Some n) count = nat_le n count

-- Persons of a role

abbrev pub home_of : Post → ℕ → Home
home_of post count = record { group = post.group; role = taken post.place post.role count }

abbrev pub given_to : Post → ℕ → List (Option Home) → ℕ → Option ℕ → Result (List (Option Home)) MembersFault
given_to post count hs line None = fault_at line kind.UnknownPerson
given_to post count hs line (Some p) =
    if is_held hs p then fault_at line kind.PersonTwice
    else (if is_full (most post.role) count then fault_at line kind.RoleFull else Ok (held_by hs p (home_of post count)))

-- a name to which the role is given behind so many others
abbrev pub name_given : List Person → Post → ℕ → List (Option Home) → ℕ → Node → Result (List (Option Home)) MembersFault
name_given ps post count hs line null = bad_value line null
name_given ps post count hs line (scalar t q l) = given_to post count hs l (person_named ps t)
name_given ps post count hs line (list is) = bad_value line (list is)
name_given ps post count hs line (map es) = bad_value line (map es)

abbrev pub names_given : List Person → Post → ℕ → List (Option Home) → Items → Result (List (Option Home)) MembersFault
names_given ps post count hs no_items = Ok hs
names_given ps post count hs (item line n is) = and_then (name_given ps post count hs line n) (λ gs. names_given ps post (suc count) gs is)

-- a role is given to a name, or to a list of names
abbrev pub role_given : List Person → Post → List (Option Home) → ℕ → Node → Result (List (Option Home)) MembersFault
role_given ps post hs line null = name_given ps post 0 hs line null
role_given ps post hs line (scalar t q l) = name_given ps post 0 hs line (scalar t q l)
role_given ps post hs line (list is) = names_given ps post 0 hs is
role_given ps post hs line (map es) = name_given ps post 0 hs line (map es)

-- Groups

-- a key that names no role is of a variable
abbrev pub role_at : List Role → List Person → ℕ → List (Option Home) → ℕ → Node → Option ℕ → Result (List (Option Home)) MembersFault
role_at rs ps group hs line n None = Ok hs
role_at rs ps group hs line n (Some place) = role_by (slice_get rs place) where
  role_by : Option Role → Result (List (Option Home)) MembersFault
  role_by None = Ok hs
  role_by (Some r) = role_given ps (record { group = group; place = place; role = r }) hs line n

-- the roles of a group, from top to bottom
abbrev pub roles_from : List Role → List Person → ℕ → List (Option Home) → Entries → Result (List (Option Home)) MembersFault
roles_from rs ps group hs no_entries = Ok hs
roles_from rs ps group hs (entry key line n es) = and_then (role_at rs ps group hs line n (role_named rs key)) (λ gs. roles_from rs ps group gs es)

abbrev pub named_group : EntityMembers → List ℕ → List (Option Home) → EntityMembers
named_group k name hs = record { names = k.names ++ name ∷ []; homes = hs }

-- the groups so far, and one more
abbrev pub with_group : List Role → List Person → EntityMembers → List ℕ → ℕ → Node → Result EntityMembers MembersFault
with_group rs ps k name line n =
    and_then (room line (length k.names)) (λ u. and_then (entries_at line n) (λ es.
    and_then (roles_from rs ps (length k.names) k.homes es) (λ hs. Ok (named_group k name hs))))

abbrev pub groups_from : List Role → List Person → EntityMembers → Entries → Result EntityMembers MembersFault
groups_from rs ps k no_entries = Ok k
groups_from rs ps k (entry name line n es) = and_then (with_group rs ps k name line n) (λ j. groups_from rs ps j es)

-- all groups at their plural, or the only one
abbrev pub groups_of : List Role → List Person → EntityMembers → Section → Result EntityMembers MembersFault
groups_of rs ps k s =
    if s.named.is_plural then and_then (entries_at s.line s.value) (groups_from rs ps k) else with_group rs ps k s.key s.line s.value

-- Groups of their own

-- the first role, or its first subrole
abbrev pub first_role : List Role → RolePlace
first_role [] = whole_role 0
first_role (r ∷ rs) = taken 0 r 0

-- the groups so far, and a person's own, named as the person
abbrev pub with_own : RolePlace → EntityMembers → ℕ → Person → Result EntityMembers MembersFault
with_own first k p person =
    and_then (room person.line (length k.names)) (λ u. Ok (named_group k person.name (held_by k.homes p (record { group = length k.names; role = first }))))

-- each person from this one on that no group holds gets one of its own
abbrev pub own_from : RolePlace → EntityMembers → ℕ → List Person → Result EntityMembers MembersFault
own_from first k p [] = Ok k
own_from first k p (person ∷ ps) = and_then (if is_held k.homes p then Ok k else with_own first k p person) (λ j. own_from first j (suc p) ps)
