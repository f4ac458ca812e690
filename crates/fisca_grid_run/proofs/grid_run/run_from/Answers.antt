use Rattle.std.proofs.Common.{◌≡◌, ℕ, List, None, Result, Ok, Err, IfOk, ap, sym, subst, ◌∙◌}
use Rattle.fisca_evaluator.specs.Counting.{CountsFree}
use Rattle.fisca_evaluator.specs.Evaluators.{marks_in, simulation_of}
use Rattle.fisca_evaluator.specs.Recalled.{marks_of}
use Rattle.fisca_evaluator.specs.Counted.{no_counts}
use Rattle.fisca_evaluator.specs.declared.counts.Counts.{Counts}
use Rattle.fisca_evaluator.specs.declared.evaluator.Evaluator.{Evaluator}
use Rattle.fisca_memo_theory.specs.Entries.{Entries}
use Rattle.fisca_groups.specs.declared.entity_members.EntityMembers.{EntityMembers}
use Rattle.fisca_model.specs.Values.{Key}
use Rattle.fisca_model.specs.declared.eval_fault.EvalFault.{EvalFault}
use Rattle.fisca_rules.specs.declared.rule_set.RuleSet.{RuleSet}
use Rattle.fisca_run_file.specs.RunFiles.{RunFile}
use Rattle.fisca_run_file.specs.Views.{file_with, run_start}
use Rattle.fisca_run_file.specs.declared.file.RunRequest.{RunRequest}
use Rattle.fisca_simulation.specs.Simulations.{Simulation}
use Rattle.fisca_situations.specs.Situations.{Situation}
use Rattle.fisca_situations.specs.declared.slot.Slot.{Slot}
use Rattle.fisca_writer.specs.Run.{IsRun}
use Rattle.fisca_writer.specs.declared.fault.RunEnd.{RunEnd}
use Rattle.fisca_writer.specs.declared.fault.RunFault.{RunFault}
use Rattle.fisca_grid_run.proofs.Came.{ended_well}
use Rattle.fisca_grid_run.proofs.Counting.{run_counted}
use Rattle.fisca_grid_run.specs.Ends.{HasLacked, end_of, stop_of}
use Rattle.fisca_grid_run.specs.Kept.{IsKept}
use Rattle.fisca_grid_run.specs.Remembered.{AreCounts, HasEnded, marks_of_run}
use Rattle.fisca_grid_run.specs.Runs.{positions, run_row}
use Rattle.fisca_rows.specs.declared.style.RowStyle.{RowStyle}
use Rattle.fisca_grid_run.proofs.grid_run.run_from.Goals as goal

-- of the same file, whose members are others by name alone
kept_of : (rules : RuleSet) (r : RunRequest) (slots : List Slot) (ms ms' : List EntityMembers) (marks : Key → ℕ) (m : Simulation) (entries : Entries) (free : ℕ) → ms ≡ ms'
    → IsKept rules (file_with ms r) slots None marks m entries free → IsKept rules (file_with ms' r) slots None marks m entries free
kept_of rules r slots ms ms' marks m entries free same kept = subst (λ ms. IsKept rules (file_with ms r) slots None marks m entries free) same kept

ended_of : {R : Type 0} (find : R → Entries) (rules : RuleSet) (style : RowStyle) (r : RunRequest) (ms ms' : List EntityMembers) (from : ℕ) (old new : Evaluator R)
    (end : Result RunEnd (RunFault EvalFault)) → ms ≡ ms'
    → HasEnded find rules style (file_with ms r) from old new end → HasEnded find rules style (file_with ms' r) from old new end
ended_of find rules style r ms ms' from old new end same ended = subst (λ ms. HasEnded find rules style (file_with ms r) from old new end) same ended

-- the counts of a run that nothing stopped
counted : {R : Type 0} (find : R → Entries) (rules : RuleSet) (style : RowStyle) (f : RunFile) (from : ℕ) (old new : Evaluator R) (counts : Counts) (end : Result RunEnd (RunFault EvalFault))
    (answer : Result (RunEnd × Counts) (RunFault EvalFault)) → end_of answer ≡ end → IfOk answer (λ ended. ended.1 ≡ counts) → counts ≡ new.store.counts
    → old.store.counts ≡ no_counts → CountsFree (find old.store.recall) old.store.counts.free → marks_in old ≡ marks_of_run rules f → HasEnded find rules style f from old new end
    → CountsFree (find new.store.recall) new.store.counts.free → IfOk answer (λ ended. AreCounts rules style f from (stop_of f ended.0) ended.1)
counted find rules style f from old new counts end (Ok ended) same is are none had marks ran frees =
    subst (AreCounts rules style f from (stop_of f ended.0)) (sym (is ∙ are))
    (run_counted rules style f find from (stop_of f ended.0) old new none had marks
    (ended_well find rules style f from old new ended.0 (subst (HasEnded find rules style f from old new) (sym same) ran)) frees)
counted find rules style f from old new counts end (Err fault) same is are none had marks ran frees = tt

pub run_with-end-requires : goal.run_with-end-requires
run_with-end-requires g c =
    let e = c.evaluator_of-evaluator.result in
    let members = ap (λ (s : Situation). s.members) c.evaluator_of-evaluator.ensures.situation in
    kept_of c.args.rules.now c.args.begun.request _ _ _ (marks_in e) (simulation_of e) _ e.store.counts.free (sym members) c.evaluator_of-evaluator.ensures.kept

pub returns-clause-run : goal.returns-clause-run
returns-clause-run g c =
    let members = ap (λ (s : Situation). s.members) c.evaluator_of-evaluator.ensures.situation in
    let taken = g.S.RowSink.taken in
    let old = taken c.args.sink.now in
    let new = taken c.run_with-end.new.sink in
    let run = subst (λ ms. let f = file_with ms c.args.begun.request in IsRun (run_row c.args.rules.now c.args.style f) (positions f) c.args.from c.args.limit old new c.run_with-end.result) members
    c.run_with-end.ensures.run in
    let f = run_start c.args.begun in
    subst (IsRun (run_row c.args.rules.now c.args.style f) (positions f) c.args.from c.args.limit old new) (sym c.with_counts.ensures.end) run

pub returns-clause-counts : goal.returns-clause-counts
returns-clause-counts g c =
    let rules = c.args.rules.now in
    let f = run_start c.args.begun in
    let old = c.evaluator_of-evaluator.result in
    let new = c.run_with-end.new.evaluator in
    let members = ap (λ (s : Situation). s.members) c.evaluator_of-evaluator.ensures.situation in
    let marks = c.evaluator_of-evaluator.ensures.wheels ∙ ap marks_of (c.as_slice-wheels.ensures.value ∙ c.requires.begun.wheels) in
    let ended = ended_of _ rules c.args.style c.args.begun.request _ _ c.args.from old new c.run_with-end.result members c.run_with-end.ensures.ended in
    counted _ rules c.args.style f c.args.from old new c.counts-counts.result c.run_with-end.result c.with_counts.result c.with_counts.ensures.end c.with_counts.ensures.counts c.counts-counts.ensures
    c.evaluator_of-evaluator.ensures.counts c.evaluator_of-evaluator.ensures.memory.frees marks ended c.run_with-end.ensures.ready.memory.frees

pub returns-clause-lacks : goal.returns-clause-lacks
returns-clause-lacks g c =
    let rules = c.args.rules.now in
    let f = run_start c.args.begun in
    let members = ap (λ (s : Situation). s.members) c.evaluator_of-evaluator.ensures.situation in
    let lacked = subst (λ ms. HasLacked rules c.args.style (file_with ms c.args.begun.request) c.args.from c.args.lacks.now c.run_with-end.new.lacks c.run_with-end.result) members
    c.run_with-end.ensures.lacks in
    subst (HasLacked rules c.args.style f c.args.from c.args.lacks.now c.run_with-end.new.lacks) (sym c.with_counts.ensures.end) lacked

pub returns-clause-members : goal.returns-clause-members
returns-clause-members g c =
    let members = λ (s : Situation). s.members in
    ap members c.into_situation.ensures ∙ (c.run_with-end.ensures.same_members ∙ ap members c.evaluator_of-evaluator.ensures.situation)
