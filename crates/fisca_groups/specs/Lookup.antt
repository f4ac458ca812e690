-- What is read off the members of a situation.
use Rattle.std.specs.Prelude.{ℕ, suc, List, [], ◌∷◌, length, slice_get, Bool, false, ◌==◌, if◌then◌else◌, Option, None, Some, map}
use Rattle.fisca_groups.specs.declared.entity_members.EntityMembers.{EntityMembers}
use Rattle.fisca_groups.specs.declared.home.Home.{Home}

abbrev pub size_of : Option EntityMembers → ℕ
size_of None = 0
size_of (Some k) = length k.names

-- how many members an entity has
abbrev pub count_at : List EntityMembers → ℕ → ℕ
count_at ks entity = size_of (slice_get ks entity)

abbrev pub named_in : ℕ → Option EntityMembers → Option (List ℕ)
named_in place None = None
named_in place (Some k) = slice_get k.names place

-- the name of a member
abbrev pub name_at : List EntityMembers → ℕ → ℕ → Option (List ℕ)
name_at ks entity place = named_in place (slice_get ks entity)

abbrev pub if_held : Option (Option Home) → Option Home
if_held None = None
if_held (Some home) = home

abbrev pub home_in : ℕ → Option EntityMembers → Option Home
home_in person None = None
home_in person (Some k) = if_held (slice_get k.homes person)

-- the group of an entity that holds a person, and the role there
abbrev pub home_at : List EntityMembers → ℕ → ℕ → Option Home
home_at ks entity person = home_in person (slice_get ks entity)

-- how many members each entity has
abbrev pub counts_of : List EntityMembers → List ℕ
counts_of = map (λ k. length k.names)

abbrev pub is_in : ℕ → Option Home → Bool
is_in group None = false
is_in group (Some home) = home.group == group

-- the persons that a group holds, in order, from the one at a place on
abbrev pub holders_from : ℕ → ℕ → List (Option Home) → List ℕ
holders_from group person [] = []
holders_from group person (home ∷ homes) =
    if is_in group home then person ∷ holders_from group (suc person) homes else holders_from group (suc person) homes
