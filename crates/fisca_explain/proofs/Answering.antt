-- What an evaluator answers is what is told of the key.
use Rattle.std.proofs.Common.{◌≡◌, ◌∙◌, Result, Ok, Err, ap, refl}
use Rattle.std.specs.Prelude.{◌≢◌}
use Rattle.fisca_model.specs.Causes.{Fault}
use Rattle.fisca_model.specs.EvalFaults.{IsAnswer}
use Rattle.fisca_model.specs.Values.{Value}
use Rattle.fisca_model.specs.declared.eval_fault.EvalFault.{EvalFault}
use Rattle.fisca_model.specs.declared.eval_fault.EvalFault.TheVariants as fault
use Rattle.fisca_model.specs.declared.value.Value.{Value as Given}
use Rattle.fisca_simulation.specs.Told.{as_told}
use Rattle.fisca_explain.proofs.Keeping.{seen_back}

pub answered : (a : Result Value Fault) (r : Result Given EvalFault) → IsAnswer a r → r ≢ Err fault.Memory → as_told a ≡ r
answered a (Ok v) is some = ap as_told is ∙ ap Ok (seen_back v)
answered a (Err (fault.ZeroDivisor k)) is some = ap as_told is
answered a (Err (fault.TooWide k)) is some = ap as_told is
answered a (Err (fault.ParameterUndefined k)) is some = ap as_told is
answered a (Err (fault.BadScale k)) is some = ap as_told is
answered a (Err (fault.NoMember k)) is some = ap as_told is
answered a (Err (fault.PeriodMismatch k)) is some = ap as_told is
answered a (Err (fault.PeriodOutOfRange k)) is some = ap as_told is
answered a (Err (fault.Cycle k)) is some = ap as_told is
answered a (Err (fault.TooDeep k)) is some = ap as_told is
answered a (Err fault.Memory) is some = absurd (some refl)
