-- The definition of a situation's members, worked out on small inputs.
use Rattle.std.proofs.Common.{◌≡◌, ℕ, List, [], ◌∷◌, length, codes, refl}
use Rattle.std.specs.Prelude.{true, false, Option, Some, None, Result, Ok}
use Rattle.fisca_model.specs.declared.role_place.RolePlace.{RolePlace}
use Rattle.fisca_model.specs.Tables.{Entity, Role, subrole_of, whole_role}
use Rattle.fisca_yaml.specs.Flow.{flow_value, series}
use Rattle.fisca_yaml.specs.Grouping.{document, block}
use Rattle.fisca_yaml.specs.Node.{Node}
use Rattle.fisca_members.specs.declared.fault.MembersKind.{MembersKind as FaultKind}
use Rattle.fisca_members.specs.declared.fault.MembersKind.TheVariants as kind
use Rattle.fisca_members.specs.declared.fault.MembersFault.{MembersFault}
use Rattle.fisca_members.specs.Steps.Faults.{fault_at}
use Rattle.fisca_groups.specs.declared.entity_members.EntityMembers.{EntityMembers}
use Rattle.fisca_groups.specs.declared.home.Home.{Home}
use Rattle.fisca_members.specs.declared.person.Person.{Person}
use Rattle.fisca_members.specs.Steps.Groups.{with_group, with_own}
use Rattle.fisca_members.specs.Steps.Members.{members_in, members_of}
use Rattle.fisca_members.specs.Steps.Persons.{room, with_person}

-- Households with parents, of whom there are two, and children; and clubs with one chair and members, who have no plural.

abbrev parent : Role
parent = record { key = codes "parent"; plural = Some (codes "parents"); max = None; subroles = codes "first_parent" ∷ codes "second_parent" ∷ [] }

abbrev child : Role
child = record { key = codes "child"; plural = Some (codes "children"); max = None; subroles = [] }

abbrev chair : Role
chair = record { key = codes "chair"; plural = None; max = Some 1; subroles = [] }

abbrev guest : Role
guest = record { key = codes "guest"; plural = None; max = None; subroles = [] }

abbrev household : Entity
household = record { constant = codes "Household"; key = codes "household"; plural = codes "households"; is_person = false; roles = parent ∷ child ∷ [] }

abbrev person : Entity
person = record { constant = codes "Person"; key = codes "person"; plural = codes "persons"; is_person = true; roles = [] }

abbrev club : Entity
club = record { constant = codes "Club"; key = codes "club"; plural = codes "clubs"; is_person = false; roles = chair ∷ guest ∷ [] }

abbrev country : List Entity
country = household ∷ person ∷ []

abbrev read_by : List Entity → Option Node → Option (Result (List EntityMembers) MembersFault)
read_by es None = None
read_by es (Some n) = Some (members_of es 1 n)

-- what a text says
abbrev read : List ℕ → Option (Result (List EntityMembers) MembersFault)
read text = read_by country (document text)

abbrev read_clubs : List ℕ → Option (Result (List EntityMembers) MembersFault)
read_clubs text = read_by (household ∷ person ∷ club ∷ []) (document text)

abbrev told : ℕ → FaultKind → Option (Result (List EntityMembers) MembersFault)
told line k = Some (fault_at line k)

abbrev at : ℕ → RolePlace → Option Home
at group role = Some (record { group = group; role = role })

abbrev first : RolePlace
first = subrole_of 0 0

abbrev second : RolePlace
second = subrole_of 0 1

abbrev children : RolePlace
children = whole_role 1

abbrev people : List (List ℕ) → EntityMembers
people names = record { names = names; homes = [] }

abbrev groups : List (List ℕ) → List (Option Home) → EntityMembers
groups names homes = record { names = names; homes = homes }

-- One person

abbrev one_alone : Option (Result (List EntityMembers) MembersFault)
one_alone = Some (Ok (groups (codes "person" ∷ []) (at 0 first ∷ []) ∷ people (codes "person" ∷ []) ∷ []))

nothing : read (codes "") ≡ one_alone
unfolding document block flow_value series with_person members_of members_in
nothing = refl

no_variables : read (codes "{}") ≡ one_alone
unfolding document block flow_value series with_person members_of members_in
no_variables = refl

variables : read (codes "{rent: {2016-11: 800, 2016-12: 800, 1979-12: 800}}") ≡ one_alone
unfolding document block flow_value series with_person members_of members_in
variables = refl

a_text : read (codes "salary") ≡ told 1 kind.BadValue
unfolding document block flow_value series with_person members_of members_in
a_text = refl

a_list : read (codes "\n- salary") ≡ told 2 kind.BadValue
unfolding document block flow_value series with_person members_of members_in
a_list = refl

an_empty_list : read (codes "[]") ≡ told 1 kind.BadValue
unfolding document block flow_value series with_person members_of members_in
an_empty_list = refl

-- the only one, named by its key
the_only_person : read (codes "{person: {age: 30}}") ≡ one_alone
unfolding document block flow_value series with_person members_of members_in
the_only_person = refl

the_only_household : read (codes "{persons: {Ann: {}}, household: {children: Ann, rent: 5}}")
    ≡ Some (Ok (groups (codes "household" ∷ []) (at 0 children ∷ []) ∷ people (codes "Ann" ∷ []) ∷ []))
unfolding document block flow_value series with_person members_of members_in
the_only_household = refl

-- Several persons

-- each has a household of its own, named as the person
two_apart : read (codes "{persons: {Ann: {age: 30, basic_income: 50}, Bob: {age: 30}}}")
    ≡ Some (Ok (groups (codes "Ann" ∷ codes "Bob" ∷ []) (at 0 first ∷ at 1 first ∷ []) ∷ people (codes "Ann" ∷ codes "Bob" ∷ []) ∷ []))
unfolding document block flow_value series with_person members_of members_in
two_apart = refl

-- the first has the first subrole, the second the second one
two_parents : read (codes "{persons: {Ann: {age: 30}, Bob: {age: 30}}, households: {home: {parents: [Ann, Bob]}}}")
    ≡ Some (Ok (groups (codes "home" ∷ []) (at 0 first ∷ at 0 second ∷ []) ∷ people (codes "Ann" ∷ codes "Bob" ∷ []) ∷ []))
unfolding document block flow_value series with_person members_of members_in
two_parents = refl

as_they_are_listed : read (codes "{households: {home: {parents: [Bob, Ann]}}, persons: {Ann: {}, Bob: {}}}")
    ≡ Some (Ok (groups (codes "home" ∷ []) (at 0 second ∷ at 0 first ∷ []) ∷ people (codes "Ann" ∷ codes "Bob" ∷ []) ∷ []))
unfolding document block flow_value series with_person members_of members_in
as_they_are_listed = refl

three_parents : read (codes "persons: {Ann: {}, Bob: {}, Cid: {}}\nhousehold:\n  parents:\n  - Ann\n  - Bob\n  - Cid") ≡ told 6 kind.RoleFull
unfolding document block flow_value series with_person members_of members_in
three_parents = refl

-- groups of their own come after the given ones, in the order of the persons
own_ones_last : read (codes "{persons: {Ann: {}, Bob: {}, Cid: {}}, households: {home: {children: Bob}}}")
    ≡ Some (Ok (groups (codes "home" ∷ codes "Ann" ∷ codes "Cid" ∷ []) (at 1 first ∷ at 0 children ∷ at 2 first ∷ []) ∷ people (codes "Ann" ∷ codes "Bob" ∷ codes "Cid" ∷ []) ∷ []))
unfolding document block flow_value series with_person members_of members_in
own_ones_last = refl

-- of each kind of groups; a role without a plural is written by its key
two_kinds : read_clubs (codes "{persons: {Ann: {}, Bob: {}}, clubs: {chess: {guest: [Ann], chair: Bob}}}")
    ≡ Some (Ok (groups (codes "Ann" ∷ codes "Bob" ∷ []) (at 0 first ∷ at 1 first ∷ []) ∷ people (codes "Ann" ∷ codes "Bob" ∷ []) ∷ groups (codes "chess" ∷ []) (at 0 (whole_role 1) ∷ at 0 (whole_role 0) ∷ []) ∷ []))
unfolding document block flow_value series with_person members_of members_in
two_kinds = refl

two_chairs : read_clubs (codes "{persons: {Ann: {}, Bob: {}}, club: {chair: [Ann, Bob]}}") ≡ told 1 kind.RoleFull
unfolding document block flow_value series with_person members_of members_in
two_chairs = refl

-- what is empty is accepted, and a group may have no persons
empty_ones : read (codes "{persons: {Ann: {}}, households: {home: {children: [], parents: []}, flat: {}}}")
    ≡ Some (Ok (groups (codes "home" ∷ codes "flat" ∷ codes "Ann" ∷ []) (at 2 first ∷ []) ∷ people (codes "Ann" ∷ []) ∷ []))
unfolding document block flow_value series with_person members_of members_in
empty_ones = refl

no_households : read (codes "{persons: {Ann: {}}, households: {}}") ≡ Some (Ok (groups (codes "Ann" ∷ []) (at 0 first ∷ []) ∷ people (codes "Ann" ∷ []) ∷ []))
unfolding document block flow_value series with_person members_of members_in
no_households = refl

-- a name in quotes is one too, and a number names a person
names_of_all_forms : read (codes "{persons: {\"A b\": {}, 7: {}}, household: {parents: ['A b', 7]}}")
    ≡ Some (Ok (groups (codes "household" ∷ []) (at 0 first ∷ at 0 second ∷ []) ∷ people (codes "A b" ∷ codes "7" ∷ []) ∷ []))
unfolding document block flow_value series with_person members_of members_in
names_of_all_forms = refl

-- Faults

unknown_entity : read (codes "persons: {Ann: {}}\nhomes: {}") ≡ told 2 kind.UnknownEntity
unfolding document block flow_value series with_person members_of members_in
unknown_entity = refl

-- a variable beside an entity is none
variable_beside : read (codes "salary: 5\npersons: {Ann: {}}") ≡ told 1 kind.UnknownEntity
unfolding document block flow_value series with_person members_of members_in
variable_beside = refl

named_twice : read (codes "persons: {Ann: {}}\nhouseholds: {}\nhousehold: {}") ≡ told 3 kind.UnknownEntity
unfolding document block flow_value series with_person members_of members_in
named_twice = refl

-- all keys come before the persons
keys_first : read (codes "households: {home: {parents: Zoe}}\npersons:\nhomes: 5") ≡ told 3 kind.UnknownEntity
unfolding document block flow_value series with_person members_of members_in
keys_first = refl

-- and the persons before the groups
persons_first : read (codes "households: {home: {parents: Zoe}}\npersons: {}") ≡ told 2 kind.UnknownPerson
unfolding document block flow_value series with_person members_of members_in
persons_first = refl

no_person : read (codes "\nhouseholds: {}") ≡ told 2 kind.UnknownPerson
unfolding document block flow_value series with_person members_of members_in
no_person = refl

no_persons : read (codes "persons:") ≡ told 1 kind.BadValue
unfolding document block flow_value series with_person members_of members_in
no_persons = refl

person_of_nothing : read (codes "persons:\n  Ann: {}\n  Bob:") ≡ told 3 kind.BadValue
unfolding document block flow_value series with_person members_of members_in
person_of_nothing = refl

person_of_a_text : read (codes "person: 30") ≡ told 1 kind.BadValue
unfolding document block flow_value series with_person members_of members_in
person_of_a_text = refl

group_of_nothing : read (codes "persons: {Ann: {}}\nhouseholds:\n  home:") ≡ told 3 kind.BadValue
unfolding document block flow_value series with_person members_of members_in
group_of_nothing = refl

role_of_nothing : read (codes "persons: {Ann: {}}\nhousehold:\n  children:") ≡ told 3 kind.BadValue
unfolding document block flow_value series with_person members_of members_in
role_of_nothing = refl

role_of_a_map : read (codes "persons: {Ann: {}}\nhousehold:\n  children:\n    Ann: 1") ≡ told 4 kind.BadValue
unfolding document block flow_value series with_person members_of members_in
role_of_a_map = refl

list_in_a_role : read (codes "persons: {Ann: {}}\nhousehold:\n  children:\n  - Ann\n  - []") ≡ told 5 kind.BadValue
unfolding document block flow_value series with_person members_of members_in
list_in_a_role = refl

nobody : read (codes "persons: {Ann: {}}\nhousehold:\n  children:\n  - Ann\n  - Zoe") ≡ told 5 kind.UnknownPerson
unfolding document block flow_value series with_person members_of members_in
nobody = refl

twice_in_a_group : read (codes "persons: {Ann: {}}\nhousehold:\n  parents: Ann\n  children: Ann") ≡ told 4 kind.PersonTwice
unfolding document block flow_value series with_person members_of members_in
twice_in_a_group = refl

in_two_groups : read (codes "persons: {Ann: {}}\nhouseholds:\n  home: {parents: Ann}\n  flat: {parents: Ann}") ≡ told 4 kind.PersonTwice
unfolding document block flow_value series with_person members_of members_in
in_two_groups = refl

-- of groups of two kinds a person may be
of_two_kinds : read_clubs (codes "{person: {}, household: {children: person}, club: {chair: person}}")
    ≡ Some (Ok (groups (codes "household" ∷ []) (at 0 children ∷ []) ∷ people (codes "person" ∷ []) ∷ groups (codes "club" ∷ []) (at 0 (whole_role 0) ∷ []) ∷ []))
unfolding document block flow_value series with_person members_of members_in
of_two_kinds = refl

-- of one name: nobody, twice, full
nobody_first : read_clubs (codes "{person: {}, club: {chair: [person, Zoe]}}") ≡ told 1 kind.UnknownPerson
unfolding document block flow_value series with_person members_of members_in
nobody_first = refl

twice_before_full : read_clubs (codes "{person: {}, club: {chair: [person, person]}}") ≡ told 1 kind.PersonTwice
unfolding document block flow_value series with_person members_of members_in
twice_before_full = refl

-- Limits: a thousand persons and a thousand groups of a kind, those of their own among them

room_for_the_last : room 7 999 ≡ Ok tt
room_for_the_last = refl

no_room : room 7 1000 ≡ fault_at 7 kind.TooMany
no_room = refl

a_thousand_persons : (ps : List Person) (name : List ℕ) (line : ℕ) (n : Node) → length ps ≡ 1000 → with_person ps name line n ≡ fault_at line kind.TooMany
unfolding with_person
a_thousand_persons ps name line n h = rw h refl

a_thousand_groups : (rs : List Role) (ps : List Person) (k : EntityMembers) (name : List ℕ) (line : ℕ) (n : Node)
    → length k.names ≡ 1000 → with_group rs ps k name line n ≡ fault_at line kind.TooMany
a_thousand_groups rs ps k name line n h = rw h refl

and_one_of_its_own : (first : RolePlace) (k : EntityMembers) (p : ℕ) (person : Person) → length k.names ≡ 1000 → with_own first k p person ≡ fault_at person.line kind.TooMany
and_one_of_its_own first k p person h = rw h refl
