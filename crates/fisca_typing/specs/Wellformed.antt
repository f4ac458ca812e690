-- Typed nodes: which have which type, given those of the earlier locals.
use Rattle.std.specs.Prelude.{◌≡◌, ⊤, ℕ, ◌*◌, List, [], ◌∷◌, ◌++◌, length, nat_lt, slice_get, Bool, true, false, ◌==◌, Some, Ok}
use Rattle.std.specs.List.{list_all}
use Rattle.fisca_params.specs.declared.content.NodeKind.{NodeKind}
use Rattle.fisca_typing.specs.declared.asking.Whom.{Whom}
use Rattle.fisca_typing.specs.declared.asking.Whom.TheVariants as whom
use Rattle.fisca_model.specs.declared.value_type.ValueType.{ValueType}
use Rattle.fisca_model.specs.declared.value_type.ValueType.TheVariants as vt
use Rattle.fisca_typing.specs.Asks.{asked_type, takes, gives}
use Rattle.fisca_typing.specs.Formulas.{Formula}
use Rattle.fisca_typing.specs.Nodes.{Node, Indices, no_index, index}
use Rattle.fisca_typing.specs.Nodes as node
use Rattle.fisca_typing.specs.Operations.{unary_type, is_places}
use Rattle.fisca_typing.specs.declared.operations.Unary.{Unary}
use Rattle.fisca_typing.specs.declared.operations.Unary.TheVariants as unary
use Rattle.fisca_typing.specs.Parameters.{kinds_at, is_number, is_bool}
use Rattle.fisca_model.specs.Tables.{Tables, members_at}
use Rattle.fisca_typing.specs.Types.{is_numeric}
use Rattle.fisca_model.specs.Tables.{variable_type}

-- the type of a local, and whether it is of the group's persons
pub record Sort : Type 0 where
  pub value_type : ValueType
  pub of_persons : Bool

-- each value of the first type is one of the second
abbrev pub is_below : ValueType → ValueType → Bool
is_below vt.Number vt.Number = true
is_below vt.Bool vt.Number = true
is_below vt.Bool vt.Bool = true
is_below (vt.Enum e) (vt.Enum f) = e == f
is_below _ _ = false

-- values of persons stand only where persons are
abbrev pub Within : Bool → Bool → Type 0
Within of_persons at_persons = of_persons ≡ true → at_persons ≡ true

abbrev pub IsAskable : Whom → Bool → Type 0
IsAskable whom.Own at_persons = ⊤
IsAskable (whom.Group e) at_persons = ⊤
IsAskable whom.Person at_persons = at_persons ≡ true
IsAskable (whom.Holder r) at_persons = ⊤

-- parameters of these kinds have values of the type
abbrev pub has_kind : ValueType → NodeKind → Bool
has_kind vt.Number k = is_number k
has_kind vt.Bool k = is_bool k
has_kind (vt.Enum e) k = false

-- how many parameters indices choose among
abbrev pub choices_of : Indices → ℕ
choices_of no_index = 1
choices_of (index n size is) = size * choices_of is

-- where there are places they are within their limits
abbrev pub has_places : Unary → Bool
has_places unary.Not = true
has_places unary.Minus = true
has_places unary.Floor = true
has_places unary.Ceil = true
has_places (unary.Round places) = is_places places
has_places unary.Absolute = true

abbrev mutual
  pub IsTyped : Tables → List Sort → Node → ValueType → Bool → Type 0
  IsTyped c G (node.literal n) t at_persons = t ≡ vt.Number
  IsTyped c G (node.truth b) t at_persons = t ≡ vt.Bool
  IsTyped c G (node.member e i) t at_persons = (t ≡ vt.Enum e) × (nat_lt i (length (members_at c e)) ≡ true)
  IsTyped c G (node.local i) t at_persons = (s : Sort) × (slice_get G i ≡ Some s) × (s.value_type ≡ t) × Within s.of_persons at_persons
  IsTyped c G (node.date_part d ms) t at_persons = t ≡ vt.Number
  IsTyped c G (node.ask v w how ms) t at_persons =
      (s : ValueType) × (variable_type c v ≡ Some s) × (asked_type how s ≡ Ok t) × IsAskable w at_persons
  IsTyped c G (node.has_role e r) t at_persons = t ≡ vt.Bool
  IsTyped c G (node.count e r) t at_persons = t ≡ vt.Number
  IsTyped c G (node.total o r a) t at_persons = (t ≡ gives o) × (s : ValueType) × (takes o s ≡ true) × IsTyped c G a s true
  IsTyped c G (node.unary o a) t at_persons = (t ≡ unary_type o) × (has_places o ≡ true) × (s : ValueType) × (is_below s (unary_type o) ≡ true) × IsTyped c G a s at_persons
  IsTyped c G (node.arithmetic o a b) t at_persons =
      (t ≡ vt.Number) × (s : ValueType) × (u : ValueType) × (is_numeric s ≡ true) × (is_numeric u ≡ true) × IsTyped c G a s at_persons × IsTyped c G b u at_persons
  IsTyped c G (node.logic o a b) t at_persons = (t ≡ vt.Bool) × IsTyped c G a vt.Bool at_persons × IsTyped c G b vt.Bool at_persons
  IsTyped c G (node.comparison o a b) t at_persons =
      (t ≡ vt.Bool) × (s : ValueType) × (u : ValueType) × (is_numeric s ≡ true) × (is_numeric u ≡ true) × IsTyped c G a s at_persons × IsTyped c G b u at_persons
  IsTyped c G (node.same a b) t at_persons = (t ≡ vt.Bool) × (e : ℕ) × IsTyped c G a (vt.Enum e) at_persons × IsTyped c G b (vt.Enum e) at_persons
  IsTyped c G (node.choose q a b) t at_persons =
      (s : ValueType) × (u : ValueType) × (is_below s t ≡ true) × (is_below u t ≡ true) × IsTyped c G q vt.Bool at_persons × IsTyped c G a s at_persons × IsTyped c G b u at_persons
  IsTyped c G (node.parameter is places ms) t at_persons =
      (list_all (has_kind t) (kinds_at c.nodes places) ≡ true) × (length places ≡ choices_of is) × AreIndices c G is at_persons
  IsTyped c G (node.scale_sum place ms a) t at_persons = (t ≡ vt.Number) × (s : ValueType) × (is_numeric s ≡ true) × IsTyped c G a s at_persons

  pub AreIndices : Tables → List Sort → Indices → Bool → Type 0
  AreIndices c G no_index at_persons = ⊤
  AreIndices c G (index n size is) at_persons =
      (e : ℕ) × (size ≡ length (members_at c e)) × IsTyped c G n (vt.Enum e) at_persons × AreIndices c G is at_persons

-- each local with those before it, and the result, which is not of persons
abbrev pub IsTypedFrom : Tables → List Sort → List Node → Node → ValueType → Type 0
IsTypedFrom c G [] result t = (s : ValueType) × (is_below s t ≡ true) × IsTyped c G result s false
IsTypedFrom c G (n ∷ ns) result t = (s : Sort) × IsTyped c G n s.value_type s.of_persons × IsTypedFrom c (G ++ s ∷ []) ns result t

abbrev pub IsTypedFormula : Tables → Formula → ValueType → Type 0
IsTypedFormula c f t = IsTypedFrom c [] f.values f.result t

-- an Enum that a variable has has a member
abbrev pub HasMembers : Tables → Type 0
HasMembers c = (v e : ℕ) → variable_type c v ≡ Some (vt.Enum e) → nat_lt 0 (length (members_at c e)) ≡ true

-- what a formula gives before it is cast to the type of its variable: for a bool a number serves as well
abbrev pub before_cast : ValueType → ValueType
before_cast vt.Number = vt.Number
before_cast vt.Bool = vt.Number
before_cast (vt.Enum e) = vt.Enum e
