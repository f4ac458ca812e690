-- Situations that keep what is given and which variables are neutralised.
use Rattle.std.specs.Prelude.{ℕ, List, [], Bool, map, slice_get, Option, Some, None, Result, Ok}
use Rattle.fisca_groups.specs.declared.entity_members.EntityMembers.{EntityMembers}
use Rattle.fisca_inputs.specs.declared.fault.SituationFault.{SituationFault}
use Rattle.fisca_inputs.specs.declared.given.Given.{Given}
use Rattle.fisca_model.specs.Periods.{key_period}
use Rattle.fisca_model.specs.declared.key.Key.{Key}
use Rattle.fisca_model.specs.declared.value.Value.TheVariants as value
use Rattle.fisca_num.specs.Number.{Number}
use Rattle.fisca_num.specs.Results.{and_then}
use Rattle.fisca_situations.specs.AllAxes.{put_all_in}
use Rattle.fisca_situations.specs.Axes as axes
use Rattle.fisca_situations.specs.Steps.Axes.{shared_anew}
use Rattle.fisca_situations.specs.Steps.Cuts.{cut_for}
use Rattle.fisca_situations.specs.Situations as situations
use Rattle.fisca_situations.specs.Steps.Situations.{reading_of, situation_by}
use Rattle.fisca_situations.specs.Slots.{Slot}
use Rattle.fisca_situations.specs.declared.reading.Reading.{Reading}
use Rattle.fisca_symbols.specs.declared.tables.Tables.{Tables}
use Rattle.fisca_symbols.specs.declared.variable.Variable.{Variable}
use Rattle.fisca_time.specs.Period.{Span}
use Rattle.fisca_yaml.specs.Node.{Node}
use Rattle.fisca_api.specs.declared.given.AxisValue.{AxisValue}

-- what is given, the members with the inputs that it gives, and marks of the variables that are neutralised, by their places
pub record Situation : Type 0 where
  pub given : List Given
  pub shared : situations.Situation
  pub neutral : List Bool

-- Reading: no variable is neutralised

abbrev pub situation_in : Tables → Reading → Result Situation SituationFault
situation_in c r = and_then (situation_by c r) (λ s. Ok (record { given = r.given; shared = s; neutral = [] }))

-- an input that no line names stands on line 1
abbrev pub situation_of : Tables → Option Span → Node → Result Situation SituationFault
situation_of c default n = and_then (reading_of c default 1 n) (situation_in c)

-- An axis

-- the situation then, and what the axis moves
pub record Moved : Type 0 where
  pub situation : Situation
  pub slot : Slot

abbrev pub with_axis : Tables → Situation → ℕ → Key → Result Moved SituationFault
with_axis c s wheel k =
    and_then (axes.with_axis c s.neutral s.shared s.given wheel k)
    (λ m. Ok (record { situation = record { given = m.given; shared = m.situation; neutral = s.neutral }; slot = m.slot }))

-- Values in place of axes

abbrev pub number_given : AxisValue → Span → Number → Given
number_given a p n = record { variable = a.variable; member = a.member; period = p; value = value.Number n; line = 0 }

-- the input that a value is; that of an eternal variable has the eternal period, and that of whole numbers is cut towards zero
abbrev pub given_as : AxisValue → Option Variable → Given
given_as a None = number_given a a.period a.value
given_as a (Some x) = number_given a (key_period x.definition_period a.period) (cut_for x.value_type a.value)

abbrev pub given_by : Tables → AxisValue → Given
given_by c a = given_as a (slice_get c.variables a.variable)

abbrev pub all_given : Tables → List AxisValue → List Given
all_given c = map (given_by c)

-- this is given to the members, and shared anew
abbrev pub situation_with : Tables → List Bool → List EntityMembers → List Given → Result Situation SituationFault
situation_with c neutral ms gs = and_then (shared_anew c neutral ms gs) (λ es. Ok (record { given = gs; shared = record { members = ms; inputs = es }; neutral = neutral }))

-- each is put in, or in the place of that of just its variable, member and period, and all are shared anew
abbrev pub situation_at : Tables → Situation → List AxisValue → Result Situation SituationFault
situation_at c s vs = situation_with c s.neutral s.shared.members (put_all_in s.given (all_given c vs))
