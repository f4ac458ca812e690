-- A run on its way: which positions were worked out.
use Rattle.std.proofs.Common.{◌≡◌, nat_lt, cond, true, ℕ, suc, ◌+◌, ◌-◌, ◌<◌, ◌≤◌, List, length, Option, Some, Result, Ok, Err, refl, ap, ◌∙◌, arith, ⊎_elim}
use Rattle.std.proofs.lemmas.Bool.{cases_lt}
use Rattle.std.proofs.lemmas.Bool.Decides.{nat_tests}
use Rattle.std.specs.Prelude.{⊤}
use Rattle.fisca_writer.specs.Came.{HasCome, HasPassed, IsRowStep, IsStep}
use Rattle.fisca_writer.specs.Odometer.{Going, HaveTurned, IsNear, after_next, product_of}
use Rattle.fisca_writer.specs.Row.{Row}
use Rattle.fisca_writer.specs.Run.{IsRowWritten}
use Rattle.fisca_writer.specs.declared.fault.RowFault.{RowFault}
use Rattle.fisca_writer.specs.declared.fault.RowFault.TheVariants as row
use Rattle.fisca_writer.specs.declared.fault.RunFault.{RunFault}
use Rattle.fisca_writer.specs.declared.fault.RunFault.TheVariants as fault
use Rattle.fisca_writer.specs.declared.rows.Selection.{Selection}
use Rattle.fisca_writer.proofs.Places.{near_all}

-- rows that remember nothing may go from any state to any other
pub steps_freely : {F : Type 0} (result : Result Selection (RowFault F)) → IsStep ⊤ ⊤ result
steps_freely (Ok selection) = tt
steps_freely (Err (row.Eval x)) = tt
steps_freely (Err row.Memory) = tt

-- the cursor after a position
pub moved_on : (old new : Going) (position : ℕ) → new ≡ after_next old → (position ≡ old.next) × (position < product_of old.counts) → (new.next ≡ position + 1) × (new.start ≡ old.start) × (new.counts ≡ old.counts)
moved_on old new position moved given =
    let less : nat_lt old.next (product_of old.counts) ≡ true = grind (arith, nat_tests, given) in
    let next : new.next ≡ old.next + 1 = ap (λ g. g.next) moved ∙ ap (λ b. cond b (old.next + 1) old.next) less in
    (omega (arith, next, given.0), ap (λ g. g.start) moved, ap (λ g. g.counts) moved)

-- the cursor's groups are all that turned since the rows' last position
pub near : (going : Going) (turned position : ℕ) (here : Option ℕ) → HaveTurned going turned → going.next ≡ position + 1 → going.start ≤ position → (going.start < position → here ≡ Some (position - 1)) → IsNear going.counts here position turned
near going turned position here have next low stands = ⊎_elim
    (λ (later : going.start < position).
    let is : position - 1 ≡ going.next - 2 = omega arith in
    let there : position ≡ going.next - 1 = omega arith in
    rw (stands later, is) (rw there (have.later (omega arith))))
    (λ (first : position ≤ going.start).
    let all : turned ≡ length going.counts = have.all (omega arith) in
    rw all (near_all going.counts here position))
    (cases_lt going.start position)

module _ {S : Type 0} (worked refused : S → ℕ → S → Type 0) where
  pub come_none : (old : S) (from : ℕ) → HasPassed worked from from old old
  come_none old from = let none : from - from ≡ 0 = omega arith in (omega arith, rw none refl)

  -- one more position
  pub come_row : (old between new : S) (from position : ℕ) → HasPassed worked from position old between → worked between position new → HasPassed worked from (position + 1) old new
  come_row old between new from position passed step =
      let low = passed.0 in
      let at : from + (position - from) ≡ position = omega arith in
      let next : position + 1 - from ≡ suc (position - from) = omega arith in
      (omega arith, rw next (between, passed.1, rw at step))

  -- the row that stops the run
  pub stopped : {F : Type 0} (size : ℕ) (row : Row F) (written now : Option (List ℕ)) (old between new : S) (from position : ℕ) (stop : RunFault F) → HasPassed worked from position old between → IsRowWritten row position written now (Err stop) → IsRowStep (worked between position new) (refused between position new) (Err stop)
      → HasCome worked refused size from old new (Err stop)
  stopped size row written now old between new from position fault.BadPosition passed there step = absurd there
  stopped size row written now old between new from position (fault.Eval p x) passed there step = rw there.0 (come_row old between new from position passed step)
  stopped size row written now old between new from position (fault.Write p) passed there step = rw there.0 (come_row old between new from position passed step)
  stopped size row written now old between new from position (fault.Memory p) passed there step = rw there.0 (between, passed, step)
