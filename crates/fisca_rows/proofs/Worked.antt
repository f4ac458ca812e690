-- The definition of rows, worked out on small ones.
use Rattle.std.proofs.Common.{◌≡◌, ℕ, ◌*◌, List, [], ◌∷◌, ◌++◌, codes, refl}
use Rattle.std.specs.Prelude.{true, false, Some, Result, Ok, Err, if◌then◌else◌, ◌==◌}
use Rattle.std.specs.Fmt.{decimal}
use Rattle.fisca_grid.specs.declared.condition.AxisComparison.{AxisComparison}
use Rattle.fisca_grid.specs.declared.condition.AxisComparison.TheVariants.{AtLeast, AtMost, Equal, NotEqual, Above, Below}
use Rattle.fisca_inputs.specs.Entries.{key}
use Rattle.fisca_inputs.specs.declared.given.Given.{Given}
use Rattle.fisca_model.specs.declared.value.Value.{Value}
use Rattle.fisca_model.specs.declared.value.Value.TheVariants as v
use Rattle.fisca_model.specs.declared.key.Key.{Key}
use Rattle.fisca_writer.specs.Row.{Row, Nothing, Line, Fault}
use Rattle.fisca_num.specs.Number.{zero_number, one_number}
use Rattle.fisca_num.specs.Text.{text_of as number_text}
use Rattle.fisca_rows.specs.Met.{all_met, meets}
use Rattle.fisca_rows.specs.Lines.{asked_row}
use Rattle.fisca_rows.specs.declared.condition.Condition.{Condition}
use Rattle.fisca_time.specs.Period.{Span, months}
use Rattle.fisca_time.specs.declared.unit.Unit.TheVariants as unit
use Rattle.fisca_model.specs.Tables.{Tables, Variable}
use Rattle.fisca_model.specs.declared.value_type.ValueType.{ValueType}
use Rattle.fisca_model.specs.declared.value_type.ValueType.TheVariants as type

-- a number, a bool and an Enum

abbrev variable : List ℕ → ValueType → Variable
variable name t = record { name = name; entity = 0; value_type = Some t; definition_period = unit.Year }

abbrev country : Tables
country = record {
  entities = [];
  enums = record { name = codes "Occupancy"; members = codes "tenant" ∷ codes "owner" ∷ [] } ∷ [];
  variables = variable (codes "rent") type.Number ∷ variable (codes "owns") type.Bool ∷ variable (codes "occupancy") (type.Enum 0) ∷ [];
  nodes = [];
}

abbrev year : Span
year = months unit.Year (12 * 2017) 1

abbrev rent : Key
rent = key 0 0 year

abbrev owns : Key
owns = key 1 0 year

abbrev occupancy : Key
occupancy = key 2 0 year

abbrev nothing : ℕ → Key
nothing m = key 2 m year

-- rent is 1, and the first household owns; of others there is no value
abbrev answer : Key → Result Value ℕ
answer k =
    if k.member == 0 then (if k.variable == 0 then Ok (v.Number one_number) else (if k.variable == 1 then Ok (v.Bool true) else Ok (v.Member 1)))
    else Err k.member

abbrev if_is : Key → AxisComparison → Value → Condition
if_is k x c = record { key = k; comparison = x; constant = c }

abbrev moved : List Given
moved = record { variable = 0; member = 0; period = year; value = v.Number one_number; line = 3 } ∷ []

abbrev row : List Condition → List Key → Row ℕ
row conditions columns = asked_row country answer conditions columns 7 moved

-- Comparisons

at_least : meets (if_is rent AtLeast (v.Number one_number)) (v.Number one_number) ≡ true
at_least = refl

at_most : meets (if_is rent AtMost (v.Number zero_number)) (v.Number one_number) ≡ false
at_most = refl

above : meets (if_is rent Above (v.Number zero_number)) (v.Number one_number) ≡ true
above = refl

below : meets (if_is rent Below (v.Number zero_number)) (v.Number one_number) ≡ false
below = refl

same_number : meets (if_is rent Equal (v.Number one_number)) (v.Number zero_number) ≡ false
same_number = refl

other_bool : meets (if_is owns NotEqual (v.Bool true)) (v.Bool false) ≡ true
other_bool = refl

same_member : meets (if_is occupancy Equal (v.Member 1)) (v.Member 1) ≡ true
same_member = refl

other_type : meets (if_is owns Equal (v.Number one_number)) (v.Bool true) ≡ false
other_type = refl

-- Conditions, in order

none : all_met answer [] ≡ Ok true
none = refl

-- the first that does not hold ends them
before_a_fault : all_met answer (if_is owns Equal (v.Bool false) ∷ if_is (nothing 5) Equal (v.Member 0) ∷ []) ≡ Ok false
before_a_fault = refl

first_fault : all_met answer (if_is owns Equal (v.Bool true) ∷ if_is (nothing 5) Equal (v.Member 0) ∷ if_is (nothing 6) Equal (v.Member 0) ∷ []) ≡ Err 5
first_fault = refl

-- Rows

whole : row [] (owns ∷ occupancy ∷ [])
    ≡ Line ((((decimal 7 ++ (9 ∷ number_text one_number)) ++ codes "\ttrue") ++ (9 ∷ codes "owner")) ++ codes "\n")
whole = refl

no_column : row (if_is rent Above (v.Number zero_number) ∷ []) [] ≡ Line ((decimal 7 ++ (9 ∷ number_text one_number)) ++ codes "\n")
no_column = refl

-- columns are not worked out where a condition does not hold
left_out : row (if_is owns NotEqual (v.Bool true) ∷ []) (nothing 5 ∷ []) ≡ Nothing
left_out = refl

-- conditions come before columns
condition_first : row (if_is (nothing 6) Equal (v.Member 0) ∷ []) (nothing 5 ∷ []) ≡ Fault 6
condition_first = refl

first_column : row [] (owns ∷ nothing 5 ∷ nothing 6 ∷ []) ≡ Fault 5
first_column = refl
