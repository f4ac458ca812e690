-- What each expression of a formula stands for, or its first fault: operands from left to right, then the type, then the level.
use Rattle.std.specs.Prelude.{ℕ, List, [], ◌∷◌, Bool, true, false, if◌then◌else◌, Option, Some, None, Result, Ok, Err, codes}
use Rattle.fisca_num.specs.declared.faults.NumFault.{NumFault}
use Rattle.fisca_num.specs.Number.{Number}
use Rattle.fisca_num.specs.Literal.{number_of_literal}
use Rattle.fisca_ast.specs.Words.{is}
use Rattle.fisca_ast.specs.Tree.{Tree, Series, Argument}
use Rattle.fisca_ast.specs.Tree as tree
use Rattle.fisca_ast.specs.declared.tree.Delimiter.{Delimiter}
use Rattle.fisca_ast.specs.declared.tree.Delimiter.TheVariants as bracket
use Rattle.fisca_ast.specs.declared.tree.Suffix.{Suffix}
use Rattle.fisca_ast.specs.declared.tree.Suffix.TheVariants as suffix
use Rattle.fisca_num.specs.Results.{and_then}
use Rattle.fisca_ast.specs.declared.fault.FormulaKind.{FormulaKind}
use Rattle.fisca_model.specs.declared.role_place.RolePlace.{RolePlace}
use Rattle.fisca_typing.specs.declared.kinds.Level.TheVariants as level
use Rattle.fisca_model.specs.declared.value_type.ValueType.{ValueType}
use Rattle.fisca_model.specs.declared.value_type.ValueType.TheVariants as vt
use Rattle.fisca_typing.specs.Asks.{asked_with, to_self, asker_attribute, count_by, method_attribute, method_called, settled_positions}
use Rattle.fisca_typing.specs.Calls.{CallArgument, function_by, offset_of, reader_by, calculation_by}
use Rattle.fisca_typing.specs.Names.{Names, named, library_function, unknown_name}
use Rattle.fisca_typing.specs.Nodes.{literal, member}
use Rattle.fisca_typing.specs.Operations.{operated, operation, comparison_of, prefixed_value}
use Rattle.fisca_typing.specs.Parameters.{node_attribute, scale_attribute, subscripted}
use Rattle.fisca_typing.specs.Periods.{period_attribute, start_attribute}
use Rattle.fisca_model.specs.Tables.{Tables, member_named, role_of_constant, roles_at}
use Rattle.fisca_ast.specs.Steps.Contents.{content}
use Rattle.fisca_typing.specs.Things.{Thing, Things, typed, value, period, start, offset, reader, nodes, scale, calculation, enumeration, choices, entity, role, asker, method, group_count, library, function, option, text, listed, none, more, value_of, nodes_of}
use Rattle.fisca_typing.specs.Types.{bad_type}

-- no module has a number that is none
abbrev pub number_thing : Result Number NumFault → Result Thing FormulaKind
number_thing (Ok n) = typed vt.Number level.Constant (literal n)
number_thing (Err e) = bad_type

-- Names behind a point

abbrev pub member_at : ℕ → Option ℕ → Result Thing FormulaKind
member_at e None = unknown_name
member_at e (Some i) = typed (vt.Enum e) level.Constant (member e i)

abbrev pub member_thing : Tables → ℕ → List ℕ → Result Thing FormulaKind
member_thing c e t = member_at e (member_named c e t)

abbrev pub value_attribute : List ℕ → ValueType → Result Thing FormulaKind
value_attribute t vt.Number = bad_type
value_attribute t vt.Bool = bad_type
value_attribute t (vt.Enum e) = if is t (codes "possible_values") then Ok (choices e) else unknown_name

abbrev pub role_at : ℕ → Option RolePlace → Result Thing FormulaKind
role_at g None = unknown_name
role_at g (Some r) = Ok (role g r)

abbrev pub role_thing : Tables → ℕ → List ℕ → Result Thing FormulaKind
role_thing c g t = role_at g (role_of_constant (roles_at c g) t)

abbrev pub attribute_of : Names → List ℕ → Thing → Result Thing FormulaKind
attribute_of c t (value v) = value_attribute t v.value_type
attribute_of c t (period ms) = period_attribute t ms
attribute_of c t (start ms) = start_attribute t ms
attribute_of c t (nodes n) = node_attribute c.tables.nodes t n
attribute_of c t (scale n ms) = scale_attribute t n ms
attribute_of c t (enumeration e) = member_thing c.tables e t
attribute_of c t (choices e) = member_thing c.tables e t
attribute_of c t (entity g) = role_thing c.tables g t
attribute_of c t asker = asker_attribute c t
attribute_of c t (method m r) = method_attribute t m r
attribute_of c t library = library_function t
attribute_of _ _ _ = bad_type

-- Calls: the arguments of all but questions are taken first, from left to right

abbrev pub not_called : List CallArgument → Result Thing FormulaKind
not_called gs = settled_positions gs (λ ps. bad_type)

abbrev pub called : Names → Thing → List CallArgument → Result Thing FormulaKind
called c (offset ms) gs = settled_positions gs (offset_of ms)
called c reader gs = settled_positions gs (reader_by c.tables)
called c (calculation n ms) gs = settled_positions gs (calculation_by n ms)
called c asker gs = asked_with c.tables (to_self c.entity) level.Own gs
called c (method m r) gs = method_called c m r gs
called c (group_count g) gs = settled_positions gs (count_by g)
called c (function f) gs = settled_positions gs (function_by f)
called _ _ gs = not_called gs

-- Brackets

abbrev pub is_positional : Option (List ℕ) → Bool
is_positional None = true
is_positional (Some k) = false

-- the elements of a list
abbrev pub elements : List CallArgument → Result Things FormulaKind
elements [] = Ok none
elements (g ∷ gs) =
    and_then g.thing (λ x. if is_positional g.keyword then and_then (elements gs) (λ xs. Ok (more x xs)) else bad_type)

-- what stands alone in brackets
abbrev pub only : List CallArgument → Result Thing FormulaKind
only [] = bad_type
only (g ∷ []) = if is_positional g.keyword then g.thing else bad_type
only (g ∷ h ∷ gs) = bad_type

-- parentheses group alone; no formula has tuples or maps
abbrev pub in_brackets : Delimiter → List CallArgument → Result Thing FormulaKind
in_brackets bracket.Round gs = only gs
in_brackets bracket.Square gs = and_then (elements gs) (λ xs. Ok (listed xs))
in_brackets bracket.Curly gs = bad_type

-- `NODE[e]`
abbrev pub subscript_of : Names → Thing → List CallArgument → Result Thing FormulaKind
subscript_of c x gs = and_then (only gs) (λ i. and_then (nodes_of x) (λ n. and_then (value_of i) (subscripted c.tables n)))

abbrev pub with_suffix : Names → Suffix → Thing → List CallArgument → Result Thing FormulaKind
with_suffix c suffix.Call x gs = called c x gs
with_suffix c suffix.Subscript x gs = subscript_of c x gs

abbrev pub given : Option (List ℕ) → Tree → Result Thing FormulaKind → CallArgument
given k e x = record { keyword = k; tree = e; thing = x }

abbrev mutual
  pub thing_of : Names → Tree → Result Thing FormulaKind
  thing_of c (tree.name t) = named c t
  thing_of c (tree.number t) = number_thing (number_of_literal t)
  thing_of c (tree.text t) = Ok (text (content t))
  thing_of c (tree.bracketed b xs) = in_brackets b (all_given c xs)
  thing_of c (tree.attribute e t) = and_then (thing_of c e) (attribute_of c t)
  thing_of c (tree.applied s f xs) = and_then (thing_of c f) (λ g. with_suffix c s g (all_given c xs))
  thing_of c (tree.prefixed p e) = and_then (thing_of c e) (prefixed_value p)
  thing_of c (tree.binary o a b) = and_then (thing_of c a) (λ x. and_then (thing_of c b) (operated (operation o) x))
  thing_of c (tree.compare o a b) = and_then (thing_of c a) (λ x. and_then (thing_of c b) (operated (comparison_of o) x))

  pub all_given : Names → Series → List CallArgument
  all_given c tree.nothing = []
  all_given c (tree.last a) = given_of c a ∷ []
  all_given c (tree.next a xs) = given_of c a ∷ all_given c xs

  pub given_of : Names → Argument → CallArgument
  given_of c (tree.positional e) = given None e (thing_of c e)
  given_of c (tree.keyword k e) = given (Some k) e (thing_of c e)
  given_of c (tree.entry k e) = given None e bad_type
