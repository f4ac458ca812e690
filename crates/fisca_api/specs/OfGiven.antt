-- Situations whose inputs are those that are given, shared.
use Rattle.std.specs.Prelude.{◌≡◌, ⊤, List, [], ◌∷◌, true, Some, slice_get, Ok}
use Rattle.fisca_num.specs.Number.{Number}
use Rattle.fisca_model.specs.declared.key.Key.{Key}
use Rattle.fisca_situations.specs.Steps.Axes.{put_in, shared_anew}
use Rattle.fisca_situations.specs.Steps.Slots.{has_numbers, turned}
use Rattle.fisca_symbols.specs.declared.tables.Tables.{Tables}
use Rattle.fisca_symbols.specs.declared.variable.Variable.{Variable}
use Rattle.fisca_time.specs.Period.{is_period}
use Rattle.fisca_api.specs.Axes.{AreGiven}
use Rattle.fisca_api.specs.Situations.{Moved, Situation, given_by}
use Rattle.fisca_api.specs.declared.given.AxisValue.{AxisValue}

-- each is given for a period, with a value of its variable's type, and no two for one variable, member and period; these are shared
pub record IsOfGiven (c : Tables) (s : Situation) : Type 0 where
  pub given : AreGiven c s.given
  pub shared : shared_anew c s.neutral s.shared.members s.given ≡ Ok s.shared.inputs

-- the value is of a variable with numbers, for a period
pub record IsAxisValue (c : Tables) (a : AxisValue) : Type 0 where
  pub variable : Variable
  pub declared : slice_get c.variables a.variable ≡ Some variable
  pub numbers : has_numbers variable.value_type ≡ true
  pub period : is_period a.period ≡ true

abbrev pub AreAxisValues : Tables → List AxisValue → Type 0
AreAxisValues c [] = ⊤
AreAxisValues c (a ∷ vs) = IsAxisValue c a × AreAxisValues c vs

-- A slot that is turned

-- the value that an axis at a key has
abbrev pub axis_value : Key → Number → AxisValue
axis_value k v = record { variable = k.variable; member = k.member; period = k.period; value = v }

-- the value is given, and the inputs are those that the turned slot leaves
abbrev pub turned_to : Tables → Moved → Key → Number → Situation
turned_to c m k v = record {
  given = put_in m.situation.given (given_by c (axis_value k v));
  shared = record { members = m.situation.shared.members; inputs = turned m.slot v m.situation.shared.inputs };
  neutral = m.situation.neutral;
}
