-- The members of a situation: which of them are there, and which groups hold persons.
use Rattle.std.specs.Prelude.{◌≡◌, ⊤, ◌<◌, ℕ, List, [], ◌∷◌, Some, Ok, slice_get}
use Rattle.fisca_groups.specs.Grouped.{persons_of}
use Rattle.fisca_groups.specs.Lookup.{count_at, home_at}
use Rattle.fisca_groups.specs.declared.entity_members.EntityMembers.{EntityMembers}
use Rattle.fisca_groups.specs.declared.home.Home.{Home}
use Rattle.fisca_members.specs.Steps.Members.{members_of}
use Rattle.fisca_model.specs.Groups.{Groups}
use Rattle.fisca_model.specs.Values.{Key}
use Rattle.fisca_rules.specs.Rules.{Rules}
use Rattle.fisca_symbols.specs.Known.{tables as known}
use Rattle.fisca_symbols.specs.declared.tables.Tables.{Tables}
use Rattle.fisca_symbols.specs.declared.variable.Variable.{Variable}
use Rattle.fisca_yaml.specs.Node.{Node}

-- these are the members of an input
abbrev pub AreMembers : Tables → List EntityMembers → Type 0
AreMembers c ms = (line : ℕ) × (n : Node) × (members_of (known c).entities line n ≡ Ok ms)

-- a member of the entity at a place is there
abbrev pub IsMember : List EntityMembers → ℕ → ℕ → Type 0
IsMember ms entity member = member < count_at ms entity

-- the member of a key is there
abbrev pub IsThere : Rules → List EntityMembers → Key → Type 0
IsThere r ms k = (x : Variable) × (slice_get r.variables k.variable ≡ Some x) × IsMember ms x.entity k.member

-- the members of these keys are there
abbrev pub AreThere : Rules → List EntityMembers → List Key → Type 0
AreThere r ms [] = ⊤
AreThere r ms (k ∷ ks) = IsThere r ms k × AreThere r ms ks

-- a group of the entity at a place holds a person, and is there
abbrev pub HasGroup : List EntityMembers → ℕ → ℕ → Type 0
HasGroup ms entity person = (home : Home) × (home_at ms entity person ≡ Some home) × IsMember ms entity home.group

-- Persons are grouped as the members say; of who is not there, or has no group, the group and the role may be whatever they are.
pub record Follows (ms : List EntityMembers) (g : Groups) : Type 0 where
  pub group : (entity person : ℕ) (home : Home) → home_at ms entity person ≡ Some home → g.group_of entity person ≡ home.group
  pub role : (entity person : ℕ) (home : Home) → home_at ms entity person ≡ Some home → g.role_of entity person ≡ home.role
  pub persons : (entity group : ℕ) → g.persons entity group ≡ persons_of group (slice_get ms entity)
