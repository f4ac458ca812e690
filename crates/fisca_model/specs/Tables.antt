-- What formulas may name: entities with their roles, Enums with their members, variables and parameters.
use Rattle.std.specs.Prelude.{ℕ, suc, List, [], ◌∷◌, map, length, Bool, true, false, not, ◌==◌, ◌&&◌, if◌then◌else◌, Option, Some, None, option_map, slice_get}
use Rattle.std.specs.List.{position_from}
use Rattle.std.specs.Str.{bytes_eq}
use Rattle.std.specs.Char.{to_ascii_uppercase}
use Rattle.fisca_params.specs.Tree.{TreeNode}
use Rattle.fisca_time.specs.declared.unit.Unit.{Unit}
use Rattle.fisca_model.specs.declared.value_type.ValueType.{ValueType}
use Rattle.fisca_model.specs.declared.role_place.RolePlace.{RolePlace}

pub record Role : Type 0 where
  pub key : List ℕ
  pub plural : Option (List ℕ)
  pub max : Option ℕ
  pub subroles : List (List ℕ)

-- its constant is the name that it is built under
pub record Entity : Type 0 where
  pub constant : List ℕ
  pub key : List ℕ
  pub plural : List ℕ
  pub is_person : Bool
  pub roles : List Role

pub record Choices : Type 0 where
  pub name : List ℕ
  pub members : List (List ℕ)

-- the type is none for dates and texts, which formulas do not use
pub record Variable : Type 0 where
  pub name : List ℕ
  pub entity : ℕ
  pub value_type : Option ValueType
  pub definition_period : Unit

pub record Tables : Type 0 where
  pub entities : List Entity
  pub enums : List Choices
  pub variables : List Variable
  pub nodes : List TreeNode

-- the first of these, and its place
abbrev pub first_where : {X : Type 0} → (X → Bool) → ℕ → List X → Option (ℕ × X)
first_where is i [] = None
first_where is i (x ∷ xs) = if is x then Some (i, x) else first_where is (suc i) xs

abbrev pub place_in : {X : Type 0} → (X → Bool) → List X → Option ℕ
place_in is xs = position_from is 0 xs

abbrev pub otherwise : {X : Type 0} → Option X → Option X → Option X
otherwise (Some x) o = Some x
otherwise None o = o

-- Roles

abbrev pub capitals : List ℕ → List ℕ
capitals = map to_ascii_uppercase

abbrev pub whole_role : ℕ → RolePlace
whole_role i = record { role = i; subrole = None }

abbrev pub subrole_of : ℕ → ℕ → RolePlace
subrole_of i j = record { role = i; subrole = Some j }

-- the first role or subrole whose key is one of these
abbrev pub role_from : (List ℕ → Bool) → ℕ → List Role → Option RolePlace
role_from is i [] = None
role_from is i (r ∷ rs) =
    if is r.key then Some (whole_role i) else otherwise (option_map (subrole_of i) (place_in is r.subroles)) (role_from is (suc i) rs)

-- a role's constant is its key in capitals
abbrev pub role_of_constant : List Role → List ℕ → Option RolePlace
role_of_constant roles t = role_from (λ key. bytes_eq (capitals key) t) 0 roles

abbrev pub role_of_key : List Role → List ℕ → Option RolePlace
role_of_key roles t = role_from (λ key. bytes_eq key t) 0 roles

abbrev pub is_one : Option ℕ → Bool
is_one None = false
is_one (Some n) = n == 1

-- a role with subroles has as many persons as there are of these
abbrev pub most : Role → Option ℕ
most r = if length r.subroles == 0 then r.max else Some (length r.subroles)

abbrev pub has_one : Option Role → Bool
has_one None = false
has_one (Some r) = is_one (most r)

-- at most one person has it: a subrole, or a role with a maximum of 1
abbrev pub is_single : List Role → RolePlace → Bool
is_single roles place = single_by place.subrole where
  single_by : Option ℕ → Bool
  single_by (Some j) = true
  single_by None = has_one (slice_get roles place.role)

abbrev pub if_single : List Role → Option RolePlace → Option RolePlace
if_single roles None = None
if_single roles (Some place) = if is_single roles place then Some place else None

-- Entities

abbrev pub is_group_of : List ℕ → Entity → Bool
is_group_of t e = not e.is_person && bytes_eq e.key t

abbrev pub is_person : Entity → Bool
is_person e = e.is_person

abbrev pub roles_of : Option Entity → List Role
roles_of None = []
roles_of (Some e) = e.roles

abbrev pub roles_at : Tables → ℕ → List Role
roles_at c place = roles_of (slice_get c.entities place)

abbrev pub person_by : Option Entity → Bool
person_by None = false
person_by (Some e) = e.is_person

abbrev pub is_person_at : Tables → ℕ → Bool
is_person_at c place = person_by (slice_get c.entities place)

abbrev pub variable_named : Tables → List ℕ → Option (ℕ × Variable)
variable_named c t = first_where (λ v. bytes_eq v.name t) 0 c.variables

-- Enums

abbrev pub members_of : Option Choices → List (List ℕ)
members_of None = []
members_of (Some e) = e.members

abbrev pub members_at : Tables → ℕ → List (List ℕ)
members_at c e = members_of (slice_get c.enums e)

abbrev pub member_named : Tables → ℕ → List ℕ → Option ℕ
member_named c e t = place_in (λ m. bytes_eq m t) (members_at c e)

-- Types of variables

abbrev pub type_in : Option Variable → Option ValueType
type_in None = None
type_in (Some x) = x.value_type

abbrev pub variable_type : Tables → ℕ → Option ValueType
variable_type c v = type_in (slice_get c.variables v)
