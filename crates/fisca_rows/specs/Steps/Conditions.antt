-- The steps of code behind `Conditions`:
-- The conditions of a filter: a column, one of `>=`, `<=`, `==`, `!=`, `>`, `<`, and a constant.
use Rattle.std.specs.Prelude.{ℕ, List, [], ◌∷◌, ◌++◌, Bool, true, false, reverse, if◌then◌else◌, Option, Some, None, option_map, option_and_then, Result, Ok, codes}
use Rattle.std.specs.Option.{option_or, unwrap_or}
use Rattle.std.specs.Str.{bytes_eq}
use Rattle.fisca_columns.specs.Steps.Calc.{default_in}
use Rattle.fisca_columns.specs.declared.fault.RunFileFault.{RunFileFault}
use Rattle.fisca_columns.specs.Columns.{column_of}
use Rattle.fisca_grid.specs.Condition.{signs}
use Rattle.fisca_grid.specs.Steps.Condition.{past_spaces}
use Rattle.fisca_grid.specs.Words.{literal_of}
use Rattle.fisca_grid.specs.Steps.Words.{around_first}
use Rattle.fisca_grid.specs.declared.condition.AxisComparison.{AxisComparison}
use Rattle.fisca_grid.specs.declared.condition.AxisComparison.TheVariants.{AtLeast, AtMost, Equal, NotEqual, Above, Below}
use Rattle.fisca_model.specs.declared.value.Value.{Value}
use Rattle.fisca_model.specs.declared.value.Value.TheVariants as v
use Rattle.fisca_model.specs.declared.key.Key.{Key}
use Rattle.fisca_model.specs.Tables.{variable_type}
use Rattle.fisca_groups.specs.declared.entity_members.EntityMembers.{EntityMembers}
use Rattle.fisca_num.specs.Results.{and_then}
use Rattle.fisca_symbols.specs.Known.{tables as known}
use Rattle.fisca_symbols.specs.declared.tables.Tables.{Tables}
use Rattle.fisca_time.specs.Period.{Span}
use Rattle.fisca_model.specs.Tables as typing
use Rattle.fisca_model.specs.declared.value_type.ValueType.{ValueType}
use Rattle.fisca_model.specs.declared.value_type.ValueType.TheVariants as type
use Rattle.fisca_yaml.specs.Steps.Find.{get}
use Rattle.fisca_yaml.specs.Node.{Node, null, scalar, list, map, Items, no_items, item}
use Rattle.fisca_rows.specs.declared.condition.Condition.{Condition}
use Rattle.fisca_rows.specs.Conditions.{condition_or_fault}

-- Parts of a text

-- the text without its last spaces, which lead it when it is read backwards
abbrev pub before_spaces : List ℕ → List ℕ
before_spaces text = reverse (past_spaces (reverse text))

-- the first of these signs that stands in a text, and what stands before and behind it
abbrev pub around_sign : List (AxisComparison × List ℕ) → List ℕ → Option (AxisComparison × (List ℕ × List ℕ))
around_sign [] text = None
around_sign (s ∷ ss) text = option_or (option_map (λ parts. (s.0, parts)) (around_first s.1 text)) (around_sign ss text)

-- Constants

-- bools and members of Enums have no order
abbrev pub is_of_order : AxisComparison → Bool
is_of_order Equal = false
is_of_order NotEqual = false
is_of_order _ = true

abbrev pub bool_of : List ℕ → Option Bool
bool_of t = if bytes_eq t (codes "true") then Some true else (if bytes_eq t (codes "false") then Some false else None)

-- what a text stands for beside values of this type: a decimal literal, `true` or `false`, or the name of a member of the Enum
abbrev pub constant_of : typing.Tables → AxisComparison → Option ValueType → List ℕ → Option Value
constant_of c comparison None t = None
constant_of c comparison (Some type.Number) t = option_map v.Number (literal_of t)
constant_of c comparison (Some type.Bool) t = if is_of_order comparison then None else option_map v.Bool (bool_of t)
constant_of c comparison (Some (type.Enum e)) t = if is_of_order comparison then None else option_map v.Member (typing.member_named c e t)

-- Conditions

abbrev pub condition_on : AxisComparison → Key → Value → Condition
condition_on comparison k x = record { key = k; comparison = comparison; constant = x }

-- the column and the constant, where spaces may stand around the comparison
abbrev pub condition_by : typing.Tables → List EntityMembers → Option Span → AxisComparison × (List ℕ × List ℕ) → Option Condition
condition_by c ms default s =
    option_and_then
    (λ k. option_map (condition_on s.0 k) (constant_of c s.0 (variable_type c k.variable) (past_spaces s.1.1)))
    (column_of c ms default (before_spaces s.1.0))

-- the condition that a text states, with the members that there are and the default period
abbrev pub condition_of : typing.Tables → List EntityMembers → Option Span → List ℕ → Option Condition
condition_of c ms default text = option_and_then (condition_by c ms default) (around_sign signs text)

-- the conditions so far, and one more, which is told of the line of its scalar
abbrev pub with_condition : Tables → List EntityMembers → Option Span → List Condition → Node → Result (List Condition) RunFileFault
with_condition c ms default xs null = Ok xs
with_condition c ms default xs (scalar t q line) = and_then (condition_or_fault line (condition_of (known c) ms default t)) (λ x. Ok (xs ++ x ∷ []))
with_condition c ms default xs (list is) = Ok xs
with_condition c ms default xs (map es) = Ok xs

abbrev pub with_conditions : Tables → List EntityMembers → Option Span → List Condition → Items → Result (List Condition) RunFileFault
with_conditions c ms default xs no_items = Ok xs
with_conditions c ms default xs (item line n is) = and_then (with_condition c ms default xs n) (λ ys. with_conditions c ms default ys is)

abbrev pub conditions_by : Tables → List EntityMembers → Option Span → Node → Result (List Condition) RunFileFault
conditions_by c ms default null = Ok []
conditions_by c ms default (scalar t q line) = with_condition c ms default [] (scalar t q line)
conditions_by c ms default (list is) = with_conditions c ms default [] is
conditions_by c ms default (map es) = Ok []

-- none where there is no filter
abbrev pub conditions_in : Tables → List EntityMembers → Node → Result (List Condition) RunFileFault
conditions_in c ms n = conditions_by c ms (default_in n) (unwrap_or (get (codes "filter") n) null)
