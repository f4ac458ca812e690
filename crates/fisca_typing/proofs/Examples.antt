-- A small rule set to work on.
use Rattle.std.proofs.Common.{ℕ, List, [], ◌∷◌, true, false}
use Rattle.std.specs.Prelude.{codes, Some, None, Result}
use Rattle.fisca_ast.specs.declared.fault.FormulaKind.{FormulaKind}
use Rattle.fisca_ast.specs.Tree.{Tree, Series}
use Rattle.fisca_ast.specs.Tree as tree
use Rattle.fisca_ast.specs.declared.tree.Suffix.TheVariants as suffix
use Rattle.fisca_ast.specs.declared.tree.Delimiter.TheVariants as bracket
use Rattle.fisca_time.specs.declared.unit.Unit.TheVariants as unit
use Rattle.fisca_typing.specs.declared.kinds.Level.{Level}
use Rattle.fisca_typing.specs.declared.kinds.Level.TheVariants as level
use Rattle.fisca_model.specs.declared.value_type.ValueType.{ValueType}
use Rattle.fisca_model.specs.declared.value_type.ValueType.TheVariants as vt
use Rattle.fisca_typing.specs.Names.{Names, Local}
use Rattle.fisca_typing.specs.Nodes.{Node, local as earlier}
use Rattle.fisca_model.specs.Tables.{Tables, Role, Entity, Choices, Variable}
use Rattle.fisca_typing.specs.Things.{Thing, value, typed}

-- `Household` with the roles `parent` (subroles `first_parent`, `second_parent`), `child`, `sum` and `members` (each of one person); `Person`;
-- `Club` with a role `member`; and a group with the key `has_role`
abbrev role : List ℕ → List (List ℕ) → Role
role key subroles = record { key = key; plural = None; max = None; subroles = subroles }

abbrev role_of_one : List ℕ → Role
role_of_one key = record { key = key; plural = None; max = Some 1; subroles = [] }

abbrev pub household : Entity
household = record {
  constant = codes "Household";
  key = codes "household";
  plural = codes "households";
  is_person = false;
  roles = role (codes "parent") (codes "first_parent" ∷ codes "second_parent" ∷ []) ∷ role (codes "child") [] ∷ role_of_one (codes "sum") ∷ role_of_one (codes "members") ∷ [];
}

abbrev pub person : Entity
person = record { constant = codes "Person"; key = codes "person"; plural = codes "persons"; is_person = true; roles = [] }

abbrev pub club : Entity
club = record { constant = codes "Club"; key = codes "club"; plural = codes "clubs"; is_person = false; roles = role (codes "member") [] ∷ [] }

abbrev pub strange : Entity
strange = record { constant = codes "Strange"; key = codes "has_role"; plural = codes "stranges"; is_person = false; roles = role_of_one (codes "head") ∷ [] }

abbrev choices : List ℕ → List (List ℕ) → Choices
choices name members = record { name = name; members = members }

abbrev variable : List ℕ → ℕ → ValueType → Variable
variable name entity t = record { name = name; entity = entity; value_type = Some t; definition_period = unit.Month }

-- variables of persons, then of households: a number, a bool and a member of `Occupancy` each; then a date, and a number of `has_role`
abbrev pub tables : Tables
tables = record {
  entities = household ∷ person ∷ club ∷ strange ∷ [];
  enums = choices (codes "Occupancy") (codes "tenant" ∷ codes "owner" ∷ []) ∷ choices (codes "Status") (codes "single" ∷ []) ∷ [];
  variables = variable (codes "salary") 1 vt.Number ∷ variable (codes "adult") 1 vt.Bool ∷ variable (codes "status") 1 (vt.Enum 1)
      ∷ variable (codes "rent") 0 vt.Number ∷ variable (codes "social") 0 vt.Bool ∷ variable (codes "occupancy") 0 (vt.Enum 0)
      ∷ record { name = codes "birth"; entity = 1; value_type = None; definition_period = unit.Month } ∷ variable (codes "fee") 3 vt.Number ∷ [];
  nodes = [];
}

abbrev pub a_local : List ℕ → ValueType → Level → ℕ → Local
a_local name t l i = record { name = name; thing = value (record { value_type = t; level = l; node = earlier i }) }

-- locals: `k`, `q` and `d` are constant, `n`, `b`, `e` and `s` the member's own, `m`, `t` and `o` of the group's persons; the first is a
-- number, the second a bool, the others members of `Occupancy`, but `s` of `Status`
abbrev pub locals : List Local
locals =
    a_local (codes "k") vt.Number level.Constant 0 ∷ a_local (codes "q") vt.Bool level.Constant 1 ∷ a_local (codes "d") (vt.Enum 0) level.Constant 2
    ∷ a_local (codes "n") vt.Number level.Own 3 ∷ a_local (codes "b") vt.Bool level.Own 4 ∷ a_local (codes "e") (vt.Enum 0) level.Own 5 ∷ a_local (codes "s") (vt.Enum 1) level.Own 6
    ∷ a_local (codes "m") vt.Number level.Members 7 ∷ a_local (codes "t") vt.Bool level.Members 8 ∷ a_local (codes "o") (vt.Enum 0) level.Members 9 ∷ []

-- a formula of households: `def formula(household, period, parameters)`
abbrev pub of_household : Names
of_household = record {
  tables = tables;
  entity = 0;
  asker_name = codes "household";
  period_name = codes "period";
  reader_name = Some (codes "parameters");
  locals = locals;
}

-- a formula of persons: `def formula(person, period)`
abbrev pub of_person : Names
of_person = record { tables = tables; entity = 1; asker_name = codes "person"; period_name = codes "period"; reader_name = None; locals = locals }

abbrev pub w : List ℕ → Tree
w = tree.name

abbrev pub k : Tree
k = w (codes "k")

abbrev pub q : Tree
q = w (codes "q")

abbrev pub d : Tree
d = w (codes "d")

abbrev pub n : Tree
n = w (codes "n")

abbrev pub b : Tree
b = w (codes "b")

abbrev pub e : Tree
e = w (codes "e")

abbrev pub s : Tree
s = w (codes "s")

abbrev pub m : Tree
m = w (codes "m")

abbrev pub t : Tree
t = w (codes "t")

abbrev pub o : Tree
o = w (codes "o")

-- a name that stands for nothing
abbrev pub nope : Tree
nope = w (codes "nope")

abbrev pub period : Tree
period = w (codes "period")

abbrev pub by_position : List Tree → Series
by_position [] = tree.nothing
by_position (x ∷ []) = tree.last (tree.positional x)
by_position (x ∷ y ∷ xs) = tree.next (tree.positional x) (by_position (y ∷ xs))

-- arguments by position, and one by keyword
abbrev pub and_keyword : List Tree → List ℕ → Tree → Series
and_keyword [] key x = tree.last (tree.keyword key x)
and_keyword (y ∷ ys) key x = tree.next (tree.positional y) (and_keyword ys key x)

abbrev pub call_with : Tree → Series → Tree
call_with f xs = tree.applied suffix.Call f xs

abbrev pub call : Tree → List Tree → Tree
call f xs = call_with f (by_position xs)

abbrev pub at : Tree → Tree → Tree
at f x = tree.applied suffix.Subscript f (by_position (x ∷ []))

abbrev pub dot : Tree → List ℕ → Tree
dot = tree.attribute

abbrev pub list : List Tree → Tree
list xs = tree.bracketed bracket.Square (by_position xs)

abbrev pub group : Tree → Tree
group x = tree.bracketed bracket.Round (by_position (x ∷ []))

abbrev pub number : Level → Node → Result Thing FormulaKind
number l node = typed vt.Number l node

abbrev pub bool : Level → Node → Result Thing FormulaKind
bool l node = typed vt.Bool l node

abbrev pub occupancy : Level → Node → Result Thing FormulaKind
occupancy l node = typed (vt.Enum 0) l node
