-- What an evaluator tells of a call, as what answers the values of keys tells it.
use Rattle.std.proofs.Common.{◌≡◌, Result, Ok, Err}
use Rattle.std.specs.Prelude.{◌≢◌}
use Rattle.fisca_situations.specs.Asked.{IsStep}
use Rattle.fisca_simulation.specs.Steps.Told.{row_fault}
use Rattle.fisca_model.specs.declared.eval_fault.EvalFault.{EvalFault}
use Rattle.fisca_model.specs.declared.eval_fault.EvalFault.TheVariants as fault
use Rattle.fisca_memo_theory.specs.Entries.{Entries, Remembered}
use Rattle.fisca_model.specs.declared.value.Value.{Value}
use Rattle.fisca_model.specs.declared.key.Key.{Key}
use Rattle.fisca_model.specs.Values as meaning
use Rattle.fisca_evaluator.specs.Asked.{HasGrown, HasRefused, HasWorked}
use Rattle.fisca_evaluator.specs.Counting.{AreLost}
use Rattle.fisca_evaluator.specs.Evaluators.{work_in}
use Rattle.fisca_evaluator.specs.declared.evaluator.Evaluator.{Evaluator}

module _ {R : Type 0} (find : R → Entries) (old : Evaluator R) (key : Key) (new : Evaluator R) where
  -- all of the work for the key is remembered
  abbrev IsAll : Type 0
  IsAll = (k : meaning.Key) → work_in old key k → Remembered (find new.store.recall) k

  pub worked : (x : Value) → HasGrown find old key new → (◌≢◌ {A = Result Value EvalFault} (Ok x) (Err fault.Memory) → IsAll) → new.store.counts.lost ≡ old.store.counts.lost
      → HasWorked find old key new
  worked x grown all lost = record { grown = grown; all = all (λ (e : Ok x ≡ Err fault.Memory). cc); lost = lost }

  pub stopped : (e : EvalFault) → HasGrown find old key new → (◌≢◌ {A = Result Value EvalFault} (Err e) (Err fault.Memory) → IsAll)
      → AreLost {X = Value} (Err e) old.store.counts.lost new.store.counts.lost
      → IsStep {X = Value} (HasWorked find old key new) (HasRefused find old key new) (Err (row_fault e))
  stopped (fault.ZeroDivisor k) grown all lost = record { grown = grown; all = all (λ e. cc); lost = lost }
  stopped (fault.TooWide k) grown all lost = record { grown = grown; all = all (λ e. cc); lost = lost }
  stopped (fault.ParameterUndefined k) grown all lost = record { grown = grown; all = all (λ e. cc); lost = lost }
  stopped (fault.BadScale k) grown all lost = record { grown = grown; all = all (λ e. cc); lost = lost }
  stopped (fault.NoMember k) grown all lost = record { grown = grown; all = all (λ e. cc); lost = lost }
  stopped (fault.PeriodMismatch k) grown all lost = record { grown = grown; all = all (λ e. cc); lost = lost }
  stopped (fault.PeriodOutOfRange k) grown all lost = record { grown = grown; all = all (λ e. cc); lost = lost }
  stopped (fault.Cycle k) grown all lost = record { grown = grown; all = all (λ e. cc); lost = lost }
  stopped (fault.TooDeep k) grown all lost = record { grown = grown; all = all (λ e. cc); lost = lost }
  stopped fault.Memory grown all lost = record { grown = grown; lost = lost }
