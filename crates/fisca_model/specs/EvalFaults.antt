-- Why a key has no value: numbers, plain names, and what each fault says.
use Rattle.std.specs.Prelude.{◌≡◌, ⊤, ℕ, List, codes, Option, Some, None, Result, Ok, Err}
use Rattle.fisca_model.specs.Causes as why
use Rattle.fisca_model.specs.Causes.{Fault, fault_at}
use Rattle.fisca_model.specs.Seen.{key_seen, value_seen}
use Rattle.fisca_model.specs.declared.value.Value.{Value}
use Rattle.fisca_model.specs.Values as values
use Rattle.fisca_model.specs.declared.eval_fault.EvalFault.{EvalFault}
use Rattle.fisca_model.specs.declared.eval_fault.EvalFault.TheVariants as fault

abbrev pub number_of : EvalFault → ℕ
number_of (fault.ZeroDivisor k) = 1
number_of (fault.TooWide k) = 2
number_of (fault.ParameterUndefined k) = 3
number_of (fault.BadScale k) = 4
number_of (fault.NoMember k) = 5
number_of (fault.PeriodMismatch k) = 6
number_of (fault.PeriodOutOfRange k) = 7
number_of (fault.Cycle k) = 8
number_of (fault.TooDeep k) = 9
number_of fault.Memory = 10

abbrev pub name_of : EvalFault → List ℕ
name_of (fault.ZeroDivisor k) = codes "ZeroDivisor"
name_of (fault.TooWide k) = codes "TooWide"
name_of (fault.ParameterUndefined k) = codes "ParameterUndefined"
name_of (fault.BadScale k) = codes "BadScale"
name_of (fault.NoMember k) = codes "NoMember"
name_of (fault.PeriodMismatch k) = codes "PeriodMismatch"
name_of (fault.PeriodOutOfRange k) = codes "PeriodOutOfRange"
name_of (fault.Cycle k) = codes "Cycle"
name_of (fault.TooDeep k) = codes "TooDeep"
name_of fault.Memory = codes "Memory"

-- what a fault says of the answer of a key; want of memory says nothing of it
abbrev pub told : EvalFault → Option Fault
told (fault.ZeroDivisor k) = Some (fault_at why.zero_divisor (key_seen k))
told (fault.TooWide k) = Some (fault_at why.too_wide (key_seen k))
told (fault.ParameterUndefined k) = Some (fault_at why.parameter_undefined (key_seen k))
told (fault.BadScale k) = Some (fault_at why.bad_scale (key_seen k))
told (fault.NoMember k) = Some (fault_at why.no_member (key_seen k))
told (fault.PeriodMismatch k) = Some (fault_at why.period_mismatch (key_seen k))
told (fault.PeriodOutOfRange k) = Some (fault_at why.period_out_of_range (key_seen k))
told (fault.Cycle k) = Some (fault_at why.cycle (key_seen k))
told (fault.TooDeep k) = Some (fault_at why.too_deep (key_seen k))
told fault.Memory = None

abbrev pub IsTold : Option Fault → Result values.Value Fault → Type 0
IsTold None answer = ⊤
IsTold (Some f) answer = answer ≡ Err f

-- this is the answer, or there was no memory
abbrev pub IsAnswer : Result values.Value Fault → Result Value EvalFault → Type 0
IsAnswer answer (Ok x) = answer ≡ Ok (value_seen x)
IsAnswer answer (Err e) = IsTold (told e) answer
