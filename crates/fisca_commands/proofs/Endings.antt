-- The status that is told of an answer is 5 exactly where the sink failed.
use Rattle.std.proofs.Common.{◌≡◌, ◌≢◌, inl, inr, ℕ, ◌==◌, ◌&&◌, if◌then◌else◌, cond, is_ok, Bool, true, false, List, map, Option, Some, None, Result, Ok, Err, refl, sym, ap, ◌∙◌}
use Rattle.std.proofs.lemmas.Bool.{ne_eqb, true≢false}
use Rattle.fisca_grid.specs.Grid.{axes_fault, groups_of}
use Rattle.fisca_writer.specs.Steps.Sink.{one_more}
use Rattle.fisca_grid.specs.declared.axes.AxisSpec.{AxisSpec}
use Rattle.fisca_grid.specs.declared.axes.AxesFault.{AxesFault}
use Rattle.fisca_grid.specs.declared.axes.AxesFault.TheVariants as axes
use Rattle.fisca_writer.specs.declared.fault.RunEnd.{RunEnd}
use Rattle.fisca_writer.specs.declared.fault.RunFault.TheVariants as run
use Rattle.fisca_grid.specs.NamedAxes.{specs_of, filter_from}
use Rattle.fisca_grid.specs.Steps.NamedAxes.{name_of, own_groups}
use Rattle.fisca_grid.specs.declared.condition.Filter.{Filter}
use Rattle.fisca_commands.specs.AxesRun.{required_filter, optional_filter, filtered_axes, axes_within_limits, named_fault, required_axes, axes_of_words}
use Rattle.fisca_rule_files.specs.Ending.{IsEndTold, IsTold, TaskOutcome, run_done, run_status}
use Rattle.fisca_commands.specs.Ending.{IsAnswered, IsJudged, IsRunEnding}
use Rattle.fisca_test_file.specs.declared.all.Verdict.{Verdict}
use Rattle.fisca_rule_files.specs.Refusal.{PathsTold, is_failed_write, is_write, status_of}
use Rattle.fisca_rule_files.specs.declared.refusal.Refusal.{Refusal}
use Rattle.fisca_rule_files.specs.declared.refusal.Refusal.TheVariants.{Params, Formula, Yaml, RunFile, Tests, Axes, BadWord, BadCondition, Run, Eval, Write, Memory, TooManyFiles}

-- no refusal of words, axes or conditions is a failed write
unwritten_filter : (filter : Option Filter) → is_write (required_filter filter) ≡ false
unwritten_filter None = refl
unwritten_filter (Some filter) = refl

unwritten_keep : (names : List (List ℕ)) (keep : Option (List ℕ)) → is_write (optional_filter names keep) ≡ false
unwritten_keep names None = refl
unwritten_keep names (Some text) = unwritten_filter (filter_from 0 names text)

unwritten_axes : (axes : List (List AxisSpec)) (keep : Result (Option Filter) Refusal) → is_write keep ≡ false → is_write (filtered_axes axes keep) ≡ false
unwritten_axes axes (Ok keep) h = refl
unwritten_axes axes (Err refusal) h = h

unwritten_limits : (names : List (List ℕ)) (specs : List AxisSpec) (fault : Option AxesFault) (keep : Option (List ℕ)) → is_write (axes_within_limits names specs fault keep) ≡ false
unwritten_limits names specs None keep = unwritten_axes (groups_of specs (own_groups specs)) (optional_filter names keep) (unwritten_keep names keep)
unwritten_limits names specs (Some fault) keep = refl

unwritten_required : (names : List (List ℕ)) (specs : Option (List AxisSpec)) (keep : Option (List ℕ)) → is_write (required_axes names specs keep) ≡ false
unwritten_required names None keep = refl
unwritten_required names (Some specs) keep = unwritten_limits names specs (named_fault names (axes_fault specs (own_groups specs))) keep

-- what is refused before a run over axes is no failed write
pub unwritten : (words : List (List ℕ)) (keep : Option (List ℕ)) (refusal : Refusal) → (refusal ≢ Memory → axes_of_words words keep ≡ Err refusal) → is_failed_write refusal ≡ false
unwritten words keep (Params path line fault) is = refl
unwritten words keep (Formula path line kind) is = refl
unwritten words keep (Yaml fault) is = refl
unwritten words keep (RunFile fault) is = refl
unwritten words keep (Tests fault) is = refl
unwritten words keep (Axes fault) is = refl
unwritten words keep BadWord is = refl
unwritten words keep BadCondition is = refl
unwritten words keep (Run fault) is = sym (ap is_write (is (λ e. absurd (cc)))) ∙ unwritten_required (map name_of words) (specs_of words) keep
unwritten words keep (Eval unanswered) is = refl
unwritten words keep Write is = sym (ap is_write (is (λ e. true≢false (ap is_failed_write e)))) ∙ unwritten_required (map name_of words) (specs_of words) keep
unwritten words keep Memory is = refl
unwritten words keep TooManyFiles is = refl

unwritten_fault : (fault : AxesFault) → (status_of (Axes fault) == 5) ≡ false
unwritten_fault axes.NoAxes = refl
unwritten_fault axes.CountsDiffer = refl
unwritten_fault axes.BadCount = refl
unwritten_fault axes.TooLarge = refl
unwritten_fault axes.UnknownVariable = refl
unwritten_fault axes.BadIndex = refl
unwritten_fault axes.AxisOverlap = refl
unwritten_fault axes.PeriodMismatch = refl
unwritten_fault axes.BadBound = refl
unwritten_fault axes.Memory = refl

-- the status of a refusal is 5 exactly where it says that the sink failed
failed_write : (refusal : Refusal) → (status_of refusal == 5) ≡ is_failed_write refusal
failed_write (Params path line fault) = refl
failed_write (Formula path line kind) = refl
failed_write (Yaml fault) = refl
failed_write (RunFile fault) = refl
failed_write (Tests fault) = refl
failed_write (Axes fault) = unwritten_fault fault
failed_write BadWord = refl
failed_write BadCondition = refl
failed_write (Run run.BadPosition) = refl
failed_write (Run (run.Eval position unanswered)) = refl
failed_write (Run (run.Write position)) = refl
failed_write (Run (run.Memory position)) = refl
failed_write (Eval unanswered) = refl
failed_write Write = refl
failed_write Memory = refl
failed_write TooManyFiles = refl

-- what is told of a refusal has the status 5 exactly where the refusal has
told_write : (paths : PathsTold) (refusal : Refusal) (outcome : TaskOutcome) → IsTold paths refusal outcome → (outcome.status == 5) ≡ (status_of refusal == 5)
told_write paths refusal outcome (inl e) = ap (λ o. o.status == 5) e
told_write paths refusal outcome (inr h) = ap (λ o. o.status == 5) h.0 ∙ sym (ne_eqb (status_of refusal) 5 h.1)

-- the status of a run that nothing stopped is that of no failed write
run_unfailed : (lacks : Bool) → (run_status lacks == 5) ≡ false
run_unfailed true = refl
run_unfailed false = refl

pub end_unfailed : (end : RunEnd) (lacks : Bool) (outcome : TaskOutcome) → IsEndTold end lacks outcome → (outcome.status == 5) ≡ false
end_unfailed end lacks outcome (inl e) = ap (λ (o : TaskOutcome). o.status == 5) e ∙ run_unfailed lacks
end_unfailed end lacks outcome (inr e) = ap (λ (o : TaskOutcome). o.status == 5) e

pub done_unfailed : (lacks : Bool) (outcome : TaskOutcome) → outcome ≡ run_done lacks → (outcome.status == 5) ≡ false
done_unfailed lacks outcome e = ap (λ (o : TaskOutcome). o.status == 5) e ∙ run_unfailed lacks

-- how a run ends that was refused
refused_so : (paths : PathsTold) (lacks table : Bool) (refusal : Refusal) (old new : Option (List ℕ)) (outcome : TaskOutcome) → IsRunEnding paths lacks table (Err refusal) old new outcome
    → IsTold paths refusal outcome
refused_so paths lacks true refusal old new outcome ending = ending.0
refused_so paths lacks false refusal old new outcome ending = ending.0

-- the failures of a run and of what follows it
pub counted : (paths : PathsTold) (lacks table : Bool) (old new : Option (List ℕ)) (answer : Result RunEnd Refusal) (outcome : TaskOutcome) (before run_failures after : ℕ)
    → IsRunEnding paths lacks table answer old new outcome
    → run_failures ≡ cond (is_write answer) (one_more before) before
    → after ≡ cond (is_ok answer && (outcome.status == 5)) (one_more run_failures) run_failures
    → after ≡ cond (outcome.status == 5) (one_more before) before
counted paths lacks table old new (Ok end) outcome before failures after ending first last = last ∙ ap (λ n. cond (outcome.status == 5) (one_more n) n) first
counted paths lacks table old new (Err refusal) outcome before failures after ending first last =
    last ∙ first
    ∙ ap (λ failed. cond failed (one_more before) before) (sym (told_write paths refusal outcome (refused_so paths lacks table refusal old new outcome ending) ∙ failed_write refusal))

-- the failures of a command that writes no last line
pub answered : (paths : PathsTold) (answer : Result Unit Refusal) (outcome : TaskOutcome) (before after : ℕ)
    → IsAnswered paths answer outcome → after ≡ cond (is_write answer) (one_more before) before → after ≡ cond (outcome.status == 5) (one_more before) before
answered paths (Ok done) outcome before after ending count = count ∙ ap (λ status. cond (status == 5) (one_more before) before) (sym (ap (λ (o : TaskOutcome). o.status) ending))
answered paths (Err refusal) outcome before after ending count =
    count ∙ ap (λ failed. cond failed (one_more before) before) (sym (told_write paths refusal outcome ending ∙ failed_write refusal))

neither : (b : Bool) → ((if b then 0 else 1) == 5) ≡ false
neither true = refl
neither false = refl

-- the failures of tests
pub of_tests : (paths : PathsTold) (answer : Result Verdict Refusal) (outcome : TaskOutcome) (before after : ℕ)
    → IsJudged paths answer outcome → after ≡ cond (is_write answer) (one_more before) before → after ≡ cond (outcome.status == 5) (one_more before) before
of_tests paths (Ok verdict) outcome before after ending count =
    count ∙ ap (λ failed. cond failed (one_more before) before) (sym (ap (λ (o : TaskOutcome). o.status == 5) ending ∙ neither (verdict.failed == 0)))
of_tests paths (Err refusal) outcome before after ending count =
    count ∙ ap (λ failed. cond failed (one_more before) before) (sym (told_write paths refusal outcome ending ∙ failed_write refusal))
