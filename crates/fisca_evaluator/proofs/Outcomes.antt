-- What holds whatever is answered.
use Rattle.std.proofs.Common.{ℕ, Result, Ok, Err, refl}
use Rattle.std.specs.Prelude.{◌≢◌, OnOk, IfErr}
use Rattle.fisca_model.specs.declared.value.Value.{Value}
use Rattle.fisca_evaluator.specs.declared.known.Known.{Known}
use Rattle.fisca_model.specs.EvalFaults.{told}
use Rattle.fisca_model.specs.declared.eval_fault.EvalFault.{EvalFault}
use Rattle.fisca_model.specs.declared.eval_fault.EvalFault.TheVariants as fault
use Rattle.fisca_evaluator.proofs.Recalls.{if_told}
use Rattle.fisca_evaluator.specs.Recalled.{IfTold}

pub on_ok_any : (r : Result Known EvalFault) (P : Type 0) → P → OnOk r P
on_ok_any (Ok x) P p = p
on_ok_any (Err e) P p = tt

pub told_any : (r : Result Known EvalFault) (P : Type 0) → P → IfErr r (λ e. IfTold (told e) P)
told_any (Ok x) P p = tt
told_any (Err e) P p = if_told (told e) P p

-- unless there was no memory
pub unless_memory : (e : EvalFault) (P : Type 0) → IfTold (told e) P → ◌≢◌ {A = Result Value EvalFault} (Err e) (Err fault.Memory) → P
unless_memory (fault.ZeroDivisor k) P h n = h
unless_memory (fault.TooWide k) P h n = h
unless_memory (fault.ParameterUndefined k) P h n = h
unless_memory (fault.BadScale k) P h n = h
unless_memory (fault.NoMember k) P h n = h
unless_memory (fault.PeriodMismatch k) P h n = h
unless_memory (fault.PeriodOutOfRange k) P h n = h
unless_memory (fault.Cycle k) P h n = h
unless_memory (fault.TooDeep k) P h n = h
unless_memory fault.Memory P h n = absurd (n refl)
