-- Attributes of variables, each by itself.
use Rattle.std.specs.Prelude.{ℕ, List, [], ◌∷◌, if◌then◌else◌, Option, Some, None, Result, Ok, Err, codes}
use Rattle.fisca_ast.specs.Steps.Groups.{bare}
use Rattle.fisca_ast.specs.Tree.{Tree, name, attribute as dotted}
use Rattle.fisca_ast.specs.Words.{is}
use Rattle.fisca_num.specs.Results.{and_then}
use Rattle.fisca_ast.specs.Modules.{Item, attribute, formula}
use Rattle.fisca_time.specs.declared.unit.Unit.{Unit as TimeUnit}
use Rattle.fisca_time.specs.declared.unit.Unit.TheVariants as unit
use Rattle.fisca_ast.specs.declared.fault.FormulaKind.{FormulaKind}
use Rattle.fisca_symbols.specs.declared.variable.SetInput.{SetInput}
use Rattle.fisca_symbols.specs.declared.variable.SetInput.TheVariants as set_input
use Rattle.fisca_attributes.specs.declared.attributes.TypeName.{TypeName}
use Rattle.fisca_attributes.specs.declared.attributes.TypeName.TheVariants as named
use Rattle.fisca_attributes.specs.Values.{bad_attribute}
use Rattle.fisca_attributes.specs.Steps.Values.{name_value}

-- the value of the first attribute of this name
abbrev pub value_at : List ℕ → List Item → Option Tree
value_at t [] = None
value_at t (attribute a ∷ xs) = if is a.name t then Some a.value else value_at t xs
value_at t (formula f ∷ xs) = value_at t xs

unfoldable pub type_named : List ℕ → Result TypeName FormulaKind
type_named t =
    if is t (codes "float") then Ok named.Float
    else (if is t (codes "int") then Ok named.Int
    else (if is t (codes "bool") then Ok named.Bool
    else (if is t (codes "date") then Ok named.Date
    else (if is t (codes "str") then Ok named.Text
    else (if is t (codes "Enum") then Ok named.Enum else bad_attribute)))))

abbrev pub type_value : Tree → Result TypeName FormulaKind
type_value e = and_then (name_value e) type_named

unfoldable pub period_named : List ℕ → Result TimeUnit FormulaKind
period_named t =
    if is t (codes "DAY") then Ok unit.Day
    else (if is t (codes "MONTH") then Ok unit.Month
    else (if is t (codes "YEAR") then Ok unit.Year
    else (if is t (codes "ETERNITY") then Ok unit.Eternity else bad_attribute)))

-- behind `DateUnit.`
abbrev pub unit_of : List ℕ → Result (List ℕ) FormulaKind → Result TimeUnit FormulaKind
unit_of t (Ok n) = if is n (codes "DateUnit") then period_named t else bad_attribute
unit_of t (Err k) = bad_attribute

abbrev pub period_in : Tree → Result TimeUnit FormulaKind
period_in (name t) = period_named t
period_in (dotted e t) = unit_of t (name_value e)
period_in e = bad_attribute

abbrev pub period_value : Tree → Result TimeUnit FormulaKind
period_value e = period_in (bare e)

unfoldable pub sharing_named : List ℕ → Result SetInput FormulaKind
sharing_named t =
    if is t (codes "set_input_divide_by_period") then Ok set_input.DivideByPeriod
    else (if is t (codes "set_input_dispatch_by_period") then Ok set_input.DispatchByPeriod else bad_attribute)

abbrev pub sharing_value : Tree → Result SetInput FormulaKind
sharing_value e = and_then (name_value e) sharing_named
