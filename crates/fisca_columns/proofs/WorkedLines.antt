-- The definition of the lines of columns, worked out on small ones.
use Rattle.std.specs.Fmt.{decimal}
use Rattle.std.proofs.Common.{◌≡◌, ℕ, ◌*◌, List, [], ◌∷◌, ◌++◌, codes, refl}
use Rattle.std.specs.Prelude.{true, Some, None, Result, Ok, Err, if◌then◌else◌, ◌==◌}
use Rattle.fisca_writer.specs.Row.{Row, Nothing, Line, Fault}
use Rattle.fisca_inputs.specs.Entries.{key}
use Rattle.fisca_model.specs.declared.value.Value.{Value}
use Rattle.fisca_model.specs.declared.value.Value.TheVariants as v
use Rattle.fisca_model.specs.declared.key.Key.{Key}
use Rattle.fisca_groups.specs.declared.entity_members.EntityMembers.{EntityMembers}
use Rattle.fisca_time.specs.Period.{Span, months}
use Rattle.fisca_time.specs.PeriodText.{text_of as period_text}
use Rattle.fisca_time.specs.declared.unit.Unit.TheVariants as unit
use Rattle.fisca_model.specs.Tables.{Tables, Variable}
use Rattle.fisca_model.specs.declared.value_type.ValueType.{ValueType}
use Rattle.fisca_model.specs.declared.value_type.ValueType.TheVariants as type
use Rattle.fisca_columns.specs.Formed.{column_row_in}

-- two persons, a bool and an Enum

abbrev variable : List ℕ → ValueType → Variable
variable name t = record { name = name; entity = 0; value_type = Some t; definition_period = unit.Year }

abbrev country : Tables
country = record {
  entities = [];
  enums = record { name = codes "Occupancy"; members = codes "tenant" ∷ codes "owner" ∷ [] } ∷ [];
  variables = variable (codes "owns") type.Bool ∷ variable (codes "occupancy") (type.Enum 0) ∷ [];
  nodes = [];
}

abbrev persons : List EntityMembers
persons = record { names = codes "Ann" ∷ codes "Bob" ∷ []; homes = [] } ∷ []

abbrev year : Span
year = months unit.Year (12 * 2017) 1

-- the first variable is true, and the second is the second member for Ann alone
abbrev answer : Key → Result Value ℕ
answer k = if k.variable == 0 then Ok (v.Bool true) else if k.member == 0 then Ok (v.Member 1) else Err 7

abbrev columns : List Key
columns = key 0 1 year ∷ key 1 0 year ∷ key 1 1 year ∷ []

abbrev row : ℕ → Row ℕ
row = column_row_in None None country persons answer columns

a_bool : row 0 ≡ Line (((codes "owns" ++ codes "\t") ++ ((codes "Bob" ++ codes "\t") ++ period_text year)) ++ codes "\ttrue\n")
a_bool = refl

a_member : row 1 ≡ Line (((codes "occupancy" ++ codes "\t") ++ ((codes "Ann" ++ codes "\t") ++ period_text year)) ++ (codes "\t" ++ (codes "owner" ++ codes "\n")))
a_member = refl

no_value : row 2 ≡ Fault 7
no_value = refl

no_column : row 3 ≡ Nothing
no_column = refl

-- Behind a number that leads each line, and in forms

abbrev led : ℕ → Row ℕ
led = column_row_in None (Some 3) country persons answer columns

a_bool_behind_a_number : led 0 ≡ Line ((decimal 3 ++ codes "\t") ++ (((codes "owns" ++ codes "\t") ++ ((codes "Bob" ++ codes "\t") ++ period_text year)) ++ codes "\ttrue\n"))
a_bool_behind_a_number = refl

no_value_behind_a_number : led 2 ≡ Fault 7
no_value_behind_a_number = refl
