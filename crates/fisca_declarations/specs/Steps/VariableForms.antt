-- The steps of code behind `VariableForms`:
-- Variables, as they are written.
use Rattle.std.specs.Prelude.{ℕ, ℤ, pos, negsuc, List, [], ◌∷◌, Bool, true, false, not, ◌==◌, ◌&&◌, ◌||◌, nat_lt, slice_get, is_ok, if◌then◌else◌, Option, Some, None, option_map, is_some, Result, Ok, Err, codes}
use Rattle.std.specs.Result.{result_ok}
use Rattle.std.specs.Str.{bytes_eq}
use Rattle.fisca_ast.specs.Steps.Groups.{bare}
use Rattle.fisca_ast.specs.Tree.{Tree}
use Rattle.fisca_ast.specs.Words.{is}
use Rattle.fisca_num.specs.Number.{Number, zero_number}
use Rattle.fisca_num.specs.Results.{and_then}
use Rattle.fisca_ast.specs.Modules.{Formula, Item, attribute, formula}
use Rattle.fisca_time.specs.Instant.{CivilDate}
use Rattle.fisca_time.specs.declared.unit.Unit.{Unit as TimeUnit}
use Rattle.fisca_time.specs.declared.unit.Unit.TheVariants as unit
use Rattle.fisca_ast.specs.declared.fault.FormulaKind.{FormulaKind}
use Rattle.fisca_ast.specs.declared.fault.FormulaKind.TheVariants as kind
use Rattle.fisca_model.specs.Tables.{place_in}
use Rattle.fisca_symbols.specs.declared.choices.Choices.{Choices}
use Rattle.fisca_declarations.specs.declared.declared.Declared.{Declared}
use Rattle.fisca_declarations.specs.declared.attributes.Attributes.{Attributes}
use Rattle.fisca_declarations.specs.declared.types.TypeLines.{TypeLines}
use Rattle.fisca_symbols.specs.declared.variable.DeclaredType.{DeclaredType}
use Rattle.fisca_symbols.specs.declared.variable.DeclaredType.TheVariants as type
use Rattle.fisca_symbols.specs.declared.variable.DefaultValue.{DefaultValue}
use Rattle.fisca_symbols.specs.declared.variable.DefaultValue.TheVariants as default
use Rattle.fisca_symbols.specs.declared.variable.SetInput.{SetInput}
use Rattle.fisca_symbols.specs.declared.variable.SetInput.TheVariants as set_input
use Rattle.fisca_symbols.specs.declared.variable.Variable.{Variable}
use Rattle.fisca_attributes.specs.declared.attributes.TypeName.{TypeName}
use Rattle.fisca_attributes.specs.declared.attributes.TypeName.TheVariants as named
use Rattle.fisca_attributes.specs.Steps.AttributeForms.{value_at, type_value, period_value, sharing_value}
use Rattle.fisca_attributes.specs.declared.dotted.Dotted.{Dotted}
use Rattle.fisca_attributes.specs.Values.{bad_attribute, needed}
use Rattle.fisca_attributes.specs.Steps.Values.{text_value, truth_value, name_value, number_value, instant_value, references_value, dotted_value, date_value, or_bad}
use Rattle.fisca_declarations.specs.VariableForms.{place_of_constant, place_of_enum, allows, is_enum, is_float, has_formulas, is_text_in, fine, passed_over, Written, or_none}

abbrev pub unknown_name : {X : Type 0} → Result X FormulaKind
unknown_name = Err kind.UnknownName

abbrev pub or_unknown : Option ℕ → Result ℕ FormulaKind
or_unknown None = unknown_name
or_unknown (Some n) = Ok n

abbrev pub entity_value : Declared → Tree → Result ℕ FormulaKind
entity_value c e = and_then (name_value e) (λ t. or_unknown (place_of_constant c t))

abbrev pub enum_value : Declared → Tree → Result ℕ FormulaKind
enum_value c e = and_then (name_value e) (λ t. or_unknown (place_of_enum c t))

-- What the lines of a variable say of its type, wherever they stand, each by the first attribute of its name.
abbrev pub type_lines : Declared → List Item → TypeLines
type_lines c xs = record {
  value_type = needed type_value (value_at (codes "value_type") xs);
  possible_values = needed (enum_value c) (value_at (codes "possible_values") xs);
  definition_period = needed period_value (value_at (codes "definition_period") xs);
}

-- the type that other attributes are judged by: it is unknown where the lines say none that can be read
abbrev pub type_known : TypeLines → Option TypeName
type_known k = result_ok k.value_type

-- the Enum that its default value is judged by
abbrev pub enum_known : TypeLines → Option ℕ
enum_known k = result_ok k.possible_values

abbrev pub if_allowed : {X : Type 0} → Bool → X → Result X FormulaKind
if_allowed true x = Ok x
if_allowed false x = bad_attribute

-- divided are numbers alone
abbrev pub sharing_fits : Option TypeName → SetInput → Result SetInput FormulaKind
sharing_fits t set_input.DivideByPeriod = if_allowed (allows is_float t) set_input.DivideByPeriod
sharing_fits t set_input.DispatchByPeriod = Ok set_input.DispatchByPeriod

-- Default values

-- from -2^31 to 2^31 - 1
abbrev pub fits_int : ℤ → Bool
fits_int (pos m) = nat_lt m 2147483648
fits_int (negsuc m) = nat_lt m 2147483648

abbrev pub is_int : Number → Bool
is_int n = (n.denominator == 1) && fits_int n.numerator

abbrev pub number_default : Tree → Result DefaultValue FormulaKind
number_default e = and_then (number_value e) (λ n. Ok (default.Number n))

-- a whole number of 32 bits
abbrev pub int_default : Tree → Result DefaultValue FormulaKind
int_default e = and_then (number_value e) (λ n. if_allowed (is_int n) (default.Number n))

abbrev pub bool_default : Tree → Result DefaultValue FormulaKind
bool_default e = and_then (truth_value e) (λ b. Ok (default.Bool b))

abbrev pub date_default : Tree → Result DefaultValue FormulaKind
date_default e = and_then (date_value e) (λ d. Ok (default.Date (Some d)))

abbrev pub text_default : Tree → Result DefaultValue FormulaKind
text_default e = and_then (text_value e) (λ t. Ok (default.Text (Some t)))

abbrev pub member_place : Choices → Dotted → Option ℕ
member_place e d = if is d.left e.name then place_in (λ m. bytes_eq m.0 d.right) e.members else None

abbrev pub member_of : Option Choices → Dotted → Option ℕ
member_of None d = None
member_of (Some e) d = member_place e d

-- a member of this Enum; any, where it is unknown which Enum
abbrev pub enum_default : Declared → Option ℕ → Tree → Result DefaultValue FormulaKind
enum_default c (Some e) t = and_then (dotted_value t) (λ d. or_bad (option_map default.Member (member_of (slice_get c.enums e) d)))
enum_default c None t = and_then (dotted_value t) (λ d. Ok (default.Member 0))

abbrev pub is_day : Tree → Bool
is_day e = is_ok (date_value e)

-- of some type
abbrev pub is_default : Tree → Bool
is_default e = is_ok (number_value e) || (is_ok (truth_value e) || (is_text_in (bare e) || (is_ok (dotted_value e) || is_day e)))

abbrev pub default_of : Declared → Option ℕ → TypeName → Tree → Result DefaultValue FormulaKind
default_of c enum named.Float e = number_default e
default_of c enum named.Int e = int_default e
default_of c enum named.Bool e = bool_default e
default_of c enum named.Date e = date_default e
default_of c enum named.Text e = text_default e
default_of c enum named.Enum e = enum_default c enum e

-- of the type, if it is known; else of some type, and none is taken
abbrev pub default_typed : Declared → Option ℕ → Result TypeName FormulaKind → Tree → Result (Option DefaultValue) FormulaKind
default_typed c enum (Ok t) e = and_then (default_of c enum t e) (λ v. Ok (Some v))
default_typed c enum (Err k) e = if_allowed (is_default e) None

abbrev pub default_said : Declared → TypeLines → Tree → Result (Option DefaultValue) FormulaKind
default_said c k e = default_typed c (enum_known k) k.value_type e

-- what is the value where none is written; an Enum names one
abbrev pub no_default : TypeName → Result DefaultValue FormulaKind
no_default named.Float = Ok (default.Number zero_number)
no_default named.Int = Ok (default.Number zero_number)
no_default named.Bool = Ok (default.Bool false)
no_default named.Date = Ok (default.Date None)
no_default named.Text = Ok (default.Text None)
no_default named.Enum = bad_attribute

-- Each attribute by itself and beside the others

-- an Enum has possible values, and no other type
abbrev pub enum_fits : TypeLines → Result ℕ FormulaKind → Result (Unit {0}) FormulaKind
enum_fits k e = and_then e (λ _. if_allowed (allows is_enum (type_known k)) tt)

abbrev pub set_input_said : TypeLines → Tree → Result SetInput FormulaKind
set_input_said k e = and_then (sharing_value e) (sharing_fits (type_known k))

-- what is told of a variable
unfoldable pub told_fits : List ℕ → Tree → Result (Unit {0}) FormulaKind
told_fits t e =
    if is t (codes "label") then fine (text_value e)
    else (if is t (codes "documentation") then fine (text_value e)
    else (if is t (codes "unit") then fine (text_value e)
    else (if is t (codes "reference") then fine (references_value e) else passed_over t e)))

unfoldable pub attribute_fits : Declared → TypeLines → List ℕ → Tree → Result (Unit {0}) FormulaKind
attribute_fits c k t e =
    if is t (codes "value_type") then fine (type_value e)
    else (if is t (codes "entity") then fine (entity_value c e)
    else (if is t (codes "definition_period") then fine (period_value e)
    else (if is t (codes "default_value") then fine (default_said c k e)
    else (if is t (codes "possible_values") then enum_fits k (enum_value c e)
    else (if is t (codes "end") then fine (instant_value e)
    else (if is t (codes "set_input") then fine (set_input_said k e) else told_fits t e))))))

abbrev pub has_attribute : List ℕ → List Item → Bool
has_attribute t xs = is_some (value_at t xs)

abbrev pub same_day : CivilDate → CivilDate → Bool
same_day a b = (a.year == b.year) && ((a.month == b.month) && (a.day == b.day))

-- a formula starts on this day
abbrev pub starts_on : CivilDate → List Item → Bool
starts_on d [] = false
starts_on d (attribute a ∷ xs) = starts_on d xs
starts_on d (formula f ∷ xs) = if same_day f.start d then true else starts_on d xs

abbrev pub is_eternal : Option TimeUnit → Bool
is_eternal (Some unit.Eternity) = true
is_eternal _ = false

-- a variable of days, months or years whose values formulas have
abbrev pub may_have_formulas : TypeLines → Bool
may_have_formulas k = allows has_formulas (type_known k) && not (is_eternal (result_ok k.definition_period))

-- what a line of a variable of this type is, with those before it
abbrev pub item_fits : Declared → TypeLines → List Item → Item → Result (Unit {0}) FormulaKind
item_fits c k earlier (attribute a) = if has_attribute a.name earlier then bad_attribute else attribute_fits c k a.name a.value
item_fits c k earlier (formula f) = if_allowed (may_have_formulas k && not (starts_on f.start earlier)) tt

-- What the attributes of a variable say, each by the first of its name, where it can be read

abbrev pub read : {X : Type 0} → (Tree → Result X FormulaKind) → Option Tree → Option X
read say None = None
read say (Some e) = result_ok (say e)

abbrev pub joined : {X : Type 0} → Option (Option X) → Option X
joined None = None
joined (Some o) = o

-- of what stands behind each name
abbrev pub said_at : Declared → TypeLines → (List ℕ → Option Tree) → Attributes
said_at c k at = record {
  entity = read (entity_value c) (at (codes "entity"));
  default_value = joined (read (default_said c k) (at (codes "default_value")));
  end = read instant_value (at (codes "end"));
  set_input = read (set_input_said k) (at (codes "set_input"));
  label = read text_value (at (codes "label"));
  documentation = read text_value (at (codes "documentation"));
  unit = read text_value (at (codes "unit"));
  reference = read references_value (at (codes "reference"));
}

abbrev pub said : Declared → TypeLines → List Item → Attributes
said c k xs = said_at c k (λ t. value_at t xs)

-- The declaration of a variable: where it is, what is told of the variable, and its formulas as they are written.

abbrev pub formulas_of : List Item → List Formula
formulas_of [] = []
formulas_of (attribute a ∷ xs) = formulas_of xs
formulas_of (formula f ∷ xs) = f ∷ formulas_of xs

-- an Enum has possible values
abbrev pub declared_type : TypeName → Result ℕ FormulaKind → Result DeclaredType FormulaKind
declared_type named.Float e = Ok type.Float
declared_type named.Int e = Ok type.Int
declared_type named.Bool e = Ok type.Bool
declared_type named.Date e = Ok type.Date
declared_type named.Text e = Ok type.Text
declared_type named.Enum e = and_then e (λ n. Ok (type.Enum n))

abbrev pub default_or_none : TypeName → Option DefaultValue → Result DefaultValue FormulaKind
default_or_none t None = no_default t
default_or_none t (Some v) = Ok v

-- A variable of this name. Its type, its entity and its definition period have to be said, and of an Enum the possible values and the default value.
abbrev pub variable_by : List ℕ → TypeLines → Attributes → Result Variable FormulaKind
variable_by n k s =
    and_then k.value_type (λ t.
    and_then (or_bad s.entity) (λ entity.
    and_then k.definition_period (λ period.
    and_then (declared_type t k.possible_values) (λ declared.
    and_then (default_or_none t s.default_value) (λ value.
    Ok (record { name = n; entity = entity; value_type = declared; definition_period = period; default_value = value; end = s.end; set_input = s.set_input }))))))

-- its declaration, which begins on this line of the module at a place
abbrev pub declaration_by : ℕ → ℕ → Attributes → List Item → Written
declaration_by place line s xs = record {
  «module» = place;
  line = line;
  label = s.label;
  documentation = s.documentation;
  unit = s.unit;
  reference = or_none s.reference;
  formulas = formulas_of xs;
}

-- what the attributes of a variable say together; what is missing is a fault of the class
abbrev pub variable_of : ℕ → ℕ → List ℕ → TypeLines → Attributes → List Item → Result (Variable × Written) FormulaKind
variable_of place line n k s xs = and_then (variable_by n k s) (λ v. Ok (v, declaration_by place line s xs))
