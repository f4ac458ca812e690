-- A run that ends before a row is worked out.
use Rattle.std.proofs.Common.{◌≡◌, ◌∙◌, ◌≤◌, ◌<◌, ℕ, inl, inr, Bool, List, [], Option, Some, None, Ok, Err, refl, sym, ap, arith}
use Rattle.std.specs.Io.KnownBytes.{Keeps}
use Rattle.fisca_evaluator.specs.Counted.{no_counts}
use Rattle.fisca_evaluator.specs.declared.counts.Counts.{Counts}
use Rattle.fisca_model.specs.declared.eval_fault.EvalFault.{EvalFault}
use Rattle.fisca_rules.specs.declared.rule_set.RuleSet.{RuleSet}
use Rattle.fisca_run_file.specs.RunFiles.{RunFile}
use Rattle.fisca_writer.proofs.Progress.{at_end, left_out, limit_reached, started, stopped_at_row}
use Rattle.fisca_writer.specs.Lines.{MoreFrom}
use Rattle.fisca_writer.specs.Ranges.{IsInside, stop_of as stop_in}
use Rattle.fisca_writer.specs.Row.{Row}
use Rattle.fisca_writer.specs.Run.{IsRun}
use Rattle.fisca_writer.specs.declared.fault.RunEnd.{RunEnd}
use Rattle.fisca_writer.specs.declared.fault.RunEnd.TheVariants as end
use Rattle.fisca_writer.specs.declared.fault.RunFault.TheVariants as fault
use Rattle.fisca_writer.specs.declared.limit.Limit.{Limit}
use Rattle.fisca_grid_run.proofs.Lacking.{none_lack}
use Rattle.fisca_grid_run.specs.Ends.{HasLacked, IsAtOnce, stop_of}
use Rattle.fisca_grid_run.specs.Remembered.{AreCounts}
use Rattle.fisca_grid_run.specs.Runs.{positions}
use Rattle.fisca_rows.specs.declared.style.RowStyle.{RowStyle}

kept : (old : Option (List ℕ)) → Keeps old old
kept None = tt
kept (Some xs) = refl

module _ (row : ℕ → Row EvalFault) (size from : ℕ) (limit : Limit) (old : Option (List ℕ)) where
  -- memory was refused before the first row
  pub refused_run : stop_in size limit ≤ size → from < stop_in size limit → ¬ (limit.rows ≡ Some 0) → IsRun row size from limit old old (Err (fault.Memory from))
  refused_run room within some =
      stopped_at_row row size from limit old old from limit.rows (started row (stop_in size limit) from limit.rows old) (omega arith) old (fault.Memory from) room within some (refl, kept old)

  -- no row was to be worked out
  pub run_at_once : (e : RunEnd) → IsInside size from limit → IsAtOnce size from limit e → IsRun row size from limit old old (Ok e)
  run_at_once end.End inside here =
      let room = inside.1 in
      let told = at_end row size from limit old old from limit.rows (started row (stop_in size limit) from limit.rows old) (omega arith) (omega (arith, here)) room (omega arith) in
      (inside, told.0, told.1)
  run_at_once (end.More position) inside (here, within, inl over) =
      let told = left_out row size from limit old old from limit.rows (started row (stop_in size limit) from limit.rows old) (omega arith) within over (omega arith) in
      (inside, told.0 ∙ ap MoreFrom (sym here), told.1)
  run_at_once (end.More position) inside (here, within, inr none) =
      let told = limit_reached row size from limit old old from limit.rows (started row (stop_in size limit) from limit.rows old) (omega arith) within (omega arith) none in
      (inside, told.0 ∙ ap MoreFrom (sym here), told.1)

-- then nothing is counted
module _ (rules : RuleSet) (style : RowStyle) (f : RunFile) (from : ℕ) where
  none_counted : (stop : ℕ) (counts : Counts) → stop ≤ from → counts ≡ no_counts → AreCounts rules style f from stop counts
  none_counted stop counts low none = record {
    keys = [];
    different = tt;
    exact = λ k. ((λ one. absurd one), (λ work. absurd (omega (arith, work.begun, work.ended, low))));
    free = ap (λ (c : Counts). c.free) none;
    lost = ap (λ (c : Counts). c.lost) none;
  }

  pub counted_at_once : (limit : Limit) (ending : RunEnd) (counts : Counts) → IsAtOnce (positions f) from limit ending → counts ≡ no_counts
      → AreCounts rules style f from (stop_of f ending) counts
  counted_at_once limit end.End counts at none = none_counted (positions f) counts (omega (arith, at)) none
  counted_at_once limit (end.More position) counts at none = none_counted position counts (omega (arith, at.0)) none

-- nor does a row lack a value
pub lacked_at_once : (E : Type 0) (rules : RuleSet) (style : RowStyle) (f : RunFile) (from : ℕ) (limit : Limit) (ending : RunEnd) (lacks : Bool) → IsAtOnce (positions f) from limit ending
    → HasLacked {E = E} rules style f from lacks lacks (Ok ending)
lacked_at_once E rules style f from limit end.End lacks at = none_lack rules style f from (positions f) lacks (omega (arith, at))
lacked_at_once E rules style f from limit (end.More position) lacks at = none_lack rules style f from position lacks (omega (arith, at.0))
