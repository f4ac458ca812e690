-- What the values of keys come from, in a situation under a rule set.
use Rattle.std.specs.Prelude.{List, Bool, if◌then◌else◌, slice_get, Option, Some, None, option_map}
use Rattle.fisca_key_semantics.specs.Answers.{Source, Sources, refused, known, formula}
use Rattle.fisca_key_semantics.specs.Inquiry.{of_key}
use Rattle.fisca_inputs.specs.Entries.{value_at}
use Rattle.fisca_inputs.specs.Steps.Inputs.{is_marked}
use Rattle.fisca_inputs.specs.Steps.Rules.{default_of}
use Rattle.fisca_model.specs.Seen.{key_of, value_seen}
use Rattle.fisca_model.specs.declared.value.Value.{Value as Input}
use Rattle.fisca_model.specs.Values.{Key}
use Rattle.fisca_key_semantics.specs.Dialogues.{Dialogue, ◌>>=◌}
use Rattle.fisca_typing.specs.Meaning.{formula_means}
use Rattle.fisca_model.specs.Groups.{Groups, Point}
use Rattle.fisca_model.specs.Periods.{fits}
use Rattle.fisca_groups.specs.Grouped.{grouped}
use Rattle.fisca_rules.specs.Rules.{DatedFormula, Rules, known_by}
use Rattle.fisca_situations.specs.Situations.{Situation}
use Rattle.fisca_time.specs.Instant.{CivilDate}
use Rattle.fisca_time.specs.Period.{start_of}
use Rattle.fisca_typing.specs.Formulas.{Formula}
use Rattle.fisca_ops.specs.Casts.{cast}
use Rattle.fisca_symbols.specs.declared.variable.Variable.{Variable}
use Rattle.fisca_rules.specs.Steps.InForce.{in_force}
use Rattle.fisca_simulation.specs.Steps.InForce.{has_ended}
use Rattle.fisca_simulation.specs.Steps.Simulations.{all_dated, own_key}

-- a rule set, a situation, and marks of the variables that are neutralised, by their places
pub record Simulation : Type 0 where
  pub rules : Rules
  pub situation : Situation
  pub neutral : List Bool

-- Formulas

-- the formula that is in force on a day, which is none past the variable's end
abbrev pub formula_on : Variable → List DatedFormula → CivilDate → Option Formula
formula_on v ds day = if has_ended v.end day then None else option_map (λ d. d.formula) (in_force day ds)

-- eternity has no first day
abbrev pub formula_from : Variable → List DatedFormula → Option CivilDate → Option Formula
formula_from v ds None = None
formula_from v ds (Some day) = formula_on v ds day

-- the formula of a key: the one that is in force when its period starts; a neutralised variable has none
abbrev pub formula_of : Rules → List Bool → Variable → Key → Option Formula
formula_of r neutral v k = if is_marked neutral k.variable then None else formula_from v (all_dated (slice_get r.formulas k.variable)) (start_of k.period)

-- where it is worked out
abbrev pub start_point : Variable → Key → Point
start_point v k = record { entity = v.entity; member = k.member; person = None; period = k.period }

-- what it gives, as a value of its variable
abbrev pub worked_out : Rules → Groups → Variable → Key → Formula → Dialogue
worked_out r groups v k f = formula_means (known_by r) groups f (start_point v k) >>= cast v.value_type

-- Sources

-- days and texts have no values
abbrev pub known_or_refused : Option Input → Source
known_or_refused None = refused
known_or_refused (Some x) = known (value_seen x)

-- the formula, or else the default
abbrev pub computed : Simulation → Variable → Key → Option Formula → Source
computed m v k None = known_or_refused (default_of v.default_value)
computed m v k (Some f) = formula (of_key k (worked_out m.rules (grouped m.situation.members) v k f))

-- the input before all else
abbrev pub given_or_computed : Simulation → Variable → Key → Option Input → Source
given_or_computed m v k (Some x) = known (value_seen x)
given_or_computed m v k None = computed m v k (formula_of m.rules m.neutral v k)

-- the period has to be one of the definition period
abbrev pub if_askable : Key → Option Variable → Option Variable
if_askable k None = None
if_askable k (Some v) = if fits v.definition_period k.period then Some v else None

-- the variable of a key, where there is one that has values at the period
abbrev pub variable_of : Rules → Key → Option Variable
variable_of r k = if_askable k (slice_get r.variables k.variable)

abbrev pub source_of : Simulation → Key → Option Variable → Source
source_of m k None = refused
source_of m k (Some v) = given_or_computed m v k (value_at m.situation.inputs (key_of k))

abbrev pub sources : Simulation → Sources
sources m k = source_of m k (variable_of m.rules k)

abbrev pub normal_key : Rules → Key → Key
normal_key r k = own_key (slice_get r.variables k.variable) k
