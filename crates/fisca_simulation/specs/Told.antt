-- What an evaluator answers, as the code has it.
use Rattle.std.specs.Prelude.{Result, Ok, Err}
use Rattle.fisca_key_semantics.specs.Answers.{answer}
use Rattle.fisca_model.specs.Causes as inquiry
use Rattle.fisca_model.specs.Causes.{Cause, Fault}
use Rattle.fisca_model.specs.Seen.{key_of, key_seen}
use Rattle.fisca_model.specs.declared.value.Value.{Value}
use Rattle.fisca_model.specs.declared.value.Value.TheVariants as v
use Rattle.fisca_model.specs.declared.key.Key.{Key}
use Rattle.fisca_model.specs.Values as meaning
use Rattle.fisca_simulation.specs.Simulations.{Simulation, normal_key, sources}
use Rattle.fisca_simulation.specs.Sound.{InputsFit, IsSafeRules}
use Rattle.fisca_model.specs.declared.eval_fault.EvalFault.{EvalFault}
use Rattle.fisca_model.specs.declared.eval_fault.EvalFault.TheVariants as fault

abbrev pub value_of : meaning.Value → Value
value_of (meaning.number n) = v.Number n
value_of (meaning.bool b) = v.Bool b
value_of (meaning.member i) = v.Member i

-- No formula is ever stuck (`answers_are_told`), so the last line is for nothing but to have one for each cause.
abbrev pub fault_of : Cause → Key → EvalFault
fault_of inquiry.zero_divisor k = fault.ZeroDivisor k
fault_of inquiry.too_wide k = fault.TooWide k
fault_of inquiry.parameter_undefined k = fault.ParameterUndefined k
fault_of inquiry.bad_scale k = fault.BadScale k
fault_of inquiry.no_member k = fault.NoMember k
fault_of inquiry.period_mismatch k = fault.PeriodMismatch k
fault_of inquiry.period_out_of_range k = fault.PeriodOutOfRange k
fault_of inquiry.cycle k = fault.Cycle k
fault_of inquiry.too_deep k = fault.TooDeep k
fault_of inquiry.stuck k = fault.Memory

abbrev pub as_told : Result meaning.Value Fault → Result Value EvalFault
as_told (Ok x) = Ok (value_of x)
as_told (Err f) = Err (fault_of f.cause (key_of f.key))

-- the answer of a key
abbrev pub told_in : Simulation → Key → Result Value EvalFault
told_in m key = as_told (answer (sources m) (normal_key m.rules (key_seen key)))

-- the rule set is safe, and the inputs are of their types
pub record IsReady (m : Simulation) : Type 0 where
  pub safe : IsSafeRules m.rules
  pub fit : InputsFit m.rules m.situation
