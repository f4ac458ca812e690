-- The steps of code behind `Values`:
-- What stands for a value of a variable.
use Rattle.std.specs.Prelude.{ℕ, zero, suc, ℤ, pos, negsuc, List, Bool, true, false, ◌==◌, ◌&&◌, nat_lt, is_ok, if◌then◌else◌, Option, Some, None, option_and_then}
use Rattle.fisca_model.specs.declared.value.Value.{Value}
use Rattle.fisca_num.specs.Number.{Number}
use Rattle.fisca_time.specs.Instant.{instant_of_text}
use Rattle.fisca_model.specs.Tables.{Tables, member_named}
use Rattle.fisca_yaml.specs.Steps.Find.{as_bool, as_number, as_text}
use Rattle.fisca_yaml.specs.Node.{Node}
use Rattle.fisca_situations.specs.declared.said.Said.{Said}
use Rattle.fisca_situations.specs.declared.said.Said.TheVariants.{Input, Unused, Unreadable}

-- a whole number of 32 bits, of which one is the sign
abbrev pub fits_int : ℤ → Bool
fits_int (pos m) = nat_lt m 2147483648
fits_int (negsuc m) = nat_lt m 2147483648

abbrev pub is_int : Number → Bool
is_int n = (n.denominator == 1) && fits_int n.numerator

abbrev pub if_int : Number → Option Number
if_int n = if is_int n then Some n else None

-- 0 and 1 stand for bools, however they are written
abbrev pub bool_of : Number → Option Bool
bool_of n = if n.denominator == 1 then bool_by n.numerator else None where
  bool_by : ℤ → Option Bool
  bool_by (pos zero) = Some false
  bool_by (pos (suc zero)) = Some true
  bool_by (pos (suc (suc k))) = None
  bool_by (negsuc k) = None

abbrev pub or_else : {X : Type 0} → Option X → Option X → Option X
or_else (Some x) o = Some x
or_else None o = o

abbrev pub bool_in : Node → Option Bool
bool_in n = or_else (as_bool n) (option_and_then bool_of (as_number n))

-- a member of an Enum by its name, in quotes or not
abbrev pub member_in : Tables → ℕ → Node → Option ℕ
member_in c place n = option_and_then (member_named c place) (as_text n)

abbrev pub int_in : Node → Option Number
int_in n = option_and_then if_int (as_number n)

-- a day of the calendar, in quotes or not
abbrev pub is_day : Option (List ℕ) → Bool
is_day None = false
is_day (Some t) = is_ok (instant_of_text t)

abbrev pub input_or : Option Value → Said
input_or None = Unreadable
input_or (Some x) = Input x

-- days and texts are read, and are no inputs then
abbrev pub unused_if : Bool → Said
unused_if b = if b then Unused else Unreadable
