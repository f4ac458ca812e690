-- The steps of code behind `Rules`:
-- What inputs turn on of a variable, and the periods that one is given for.
use Rattle.std.specs.Prelude.{Bool, nat_lt, length, Option, Some, None}
use Rattle.fisca_symbols.specs.declared.variable.DefaultValue.{DefaultValue}
use Rattle.fisca_symbols.specs.declared.variable.DefaultValue.TheVariants as default
use Rattle.fisca_time.specs.Period.{Span, subs}
use Rattle.fisca_time.specs.declared.unit.Unit.{Unit}
use Rattle.fisca_model.specs.declared.value.Value.{Value}
use Rattle.fisca_model.specs.declared.value.Value.TheVariants as v

-- days and texts have no inputs here
abbrev pub default_of : DefaultValue → Option Value
default_of (default.Number n) = Some (v.Number n)
default_of (default.Bool b) = Some (v.Bool b)
default_of (default.Member i) = Some (v.Member i)
default_of (default.Date d) = None
default_of (default.Text t) = None

-- the period has more than one of the variable's definition periods
abbrev pub is_longer : Unit → Span → Bool
is_longer unit p = nat_lt 1 (length (subs p unit))
