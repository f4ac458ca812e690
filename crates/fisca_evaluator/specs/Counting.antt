-- How counts rise with what is remembered.
use Rattle.std.specs.Prelude.{◌≡◌, ◌⊎◌, ℕ, zero, suc, ◌+◌, Option, Some, None, Result, Ok, Err}
use Rattle.fisca_model.specs.Causes.{Fault}
use Rattle.fisca_model.specs.EvalFaults.{told}
use Rattle.fisca_model.specs.declared.eval_fault.EvalFault.{EvalFault}
use Rattle.fisca_memo_theory.specs.Added.{AreAdded, IsFree}
use Rattle.fisca_memo_theory.specs.Entries.{Entries}
use Rattle.fisca_evaluator.specs.Counted.{one_more}
use Rattle.fisca_evaluator.specs.declared.counts.Counts.{Counts}

-- a count, so many counted more
abbrev pub raised : ℕ → ℕ → ℕ
raised count zero = count
raised count (suc more) = one_more (raised count more)

-- So many keys are remembered that were not, and each raises one of two counts; which one it raises follows from `CountsFree`.
pub record IsCounted (old new : Entries) (before after : Counts) : Type 0 where
  pub more_free : ℕ
  pub more_bound : ℕ
  pub added : AreAdded old new (more_free + more_bound)
  pub free : after.free ≡ raised before.free more_free
  pub bound : after.bound ≡ raised before.bound more_bound

-- the keys of which something is remembered that reads no wheel are counted, as far as a count goes
pub record CountsFree (entries : Entries) (free : ℕ) : Type 0 where
  pub count : ℕ
  pub keys : IsFree entries count
  pub counted : free ≡ raised 0 count

-- a fault of a key loses no value, and want of memory one at most
abbrev pub IsLost : Option Fault → ℕ → ℕ → Type 0
IsLost None before after = (after ≡ before) ⊎ (after ≡ one_more before)
IsLost (Some f) before after = after ≡ before

-- how many values found no memory, by what is answered
abbrev pub AreLost : {X : Type 0} → Result X EvalFault → ℕ → ℕ → Type 0
AreLost (Ok x) before after = after ≡ before
AreLost (Err e) before after = IsLost (told e) before after
