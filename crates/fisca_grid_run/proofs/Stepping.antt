-- A run in one situation goes from a position to another.
use Rattle.std.proofs.Common.{◌≡◌, ◌⊎◌, ◌<◌, ℕ, suc, Bool, List, [], ◌∷◌, length, map, Option, Some, Result, Ok, Err, refl, sym, ap, subst, ◌∙◌, arith, inl, inr, ⊎_elim}
use Rattle.std.proofs.lemmas.List.{length-map}
use Rattle.std.specs.Prelude.{⊤}
use Rattle.fisca_situations.specs.Asked.{HaveAsked}
use Rattle.fisca_simulation.specs.Told.{told_in}
use Rattle.fisca_model.specs.declared.eval_fault.EvalFault.{EvalFault}
use Rattle.fisca_grid.specs.AxesRow.{values_of}
use Rattle.fisca_grid.specs.Grid.{axes_at, axes_in, counts_of}
use Rattle.fisca_memo_theory.specs.Entries.{Entries}
use Rattle.fisca_memo_theory.specs.Reads.{IsReads}
use Rattle.fisca_inputs.specs.declared.given.Given.{Given}
use Rattle.fisca_model.specs.declared.key.Key as inputs
use Rattle.fisca_writer.specs.Came.{IsStep}
use Rattle.fisca_writer.specs.Odometer.{IsNear}
use Rattle.fisca_writer.specs.declared.fault.RowFault.{RowFault}
use Rattle.fisca_writer.specs.declared.fault.RowFault.TheVariants as fault
use Rattle.fisca_writer.specs.declared.rows.Selection.{Selection}
use Rattle.fisca_evaluator.specs.Asked.{HasRefused, HasWorked}
use Rattle.fisca_evaluator.specs.Counting.{raised}
use Rattle.fisca_evaluator.specs.Evaluators.{IsMemoryOf, marks_in, simulation_of}
use Rattle.fisca_evaluator.specs.declared.evaluator.Evaluator.{Evaluator}
use Rattle.fisca_model.specs.Values.{Key}
use Rattle.fisca_num.specs.Number.{Number}
use Rattle.fisca_evaluator.specs.Counted.{one_more}
use Rattle.fisca_evaluator.specs.declared.counts.Counts.{Counts}
use Rattle.fisca_rules.specs.declared.rule_set.RuleSet.{RuleSet}
use Rattle.fisca_grid_run.proofs.Gone.{HaveAllWorked, HaveSomeWorked, all_gone, some_gone}
use Rattle.fisca_grid_run.proofs.Passing.{asked_just, just_for, just_on, some_kept, work_back, work_to}
use Rattle.fisca_grid_run.proofs.Placing.{turned_situated}
use Rattle.fisca_rows.specs.Going.{keys_styled}
use Rattle.fisca_rows.specs.declared.style.RowStyle.{RowStyle}
use Rattle.fisca_grid_run.specs.Kept.{AllMarked, IsKept, IsSituated, with_inputs}
use Rattle.fisca_grid_run.specs.Remembered.{AreJust, IsPassed, IsRefused, IsStillWork, WorkOfOne}
use Rattle.fisca_grid_run.specs.Runs.{positions}
use Rattle.fisca_run_file.specs.RunFiles.{RunFile}
use Rattle.fisca_run.proofs.OfFiles.{length-wheels, many_wheels}
use Rattle.fisca_run_file.specs.Steps.Slots.{slots_with}
use Rattle.fisca_slots.specs.Turning.{turned_below, wheels_from}
use Rattle.fisca_situations.specs.Views.{slot as slot_view}
use Rattle.fisca_situations.specs.declared.slot.Slot.{Slot}
use Rattle.fisca_simulation.specs.Simulations.{Simulation, sources}
use Rattle.fisca_symbols.specs.declared.tables.Tables.{Tables}

length-slots_with : (c : Tables) (neutral : List Bool) (wheels : List ℕ) (gs : List Given) → length wheels ≡ length gs → length (slots_with c neutral wheels gs) ≡ length wheels
length-slots_with c neutral [] gs h = refl
length-slots_with c neutral (wheel ∷ wheels) [] h = absurd (omega (arith, h))
length-slots_with c neutral (wheel ∷ wheels) (g ∷ gs) h = ap suc (length-slots_with c neutral wheels gs (omega (arith, h)))

module _ (rules : RuleSet) (f : RunFile) (slots : List Slot) (here : Option ℕ) (marks : Key → ℕ) (m : Simulation) (entries : Entries) (free : ℕ)
    (kept : IsKept rules f slots here marks m entries free) where
  -- there is a slot for each axis
  pub many_slots : length slots ≡ axes_in f.groups
  many_slots =
      let c = rules.tables in
      let read = kept.accepted.asked.read in
      sym (length-map slots slot_view)
      ∙ (ap length kept.slots_are
      ∙ (length-slots_with c f.neutral (wheels_from 0 f.groups) f.moved (many_wheels c kept.accepted.tree f read)
      ∙ length-wheels 0 f.groups))

  pub situated_there : (position turned : ℕ) (new : Simulation) → position < positions f → IsNear (counts_of f.groups) here position turned
      → ((vs : List Number) → values_of (axes_at f.groups position) ≡ Some vs → new ≡ with_inputs m (turned_below turned (map slot_view slots) vs m.situation.inputs))
      → IsSituated rules f (Some position) new
  situated_there position turned new within near turns =
      turned_situated rules kept.accepted.tree f kept.accepted.asked position turned here m new within near kept.situated
      (λ vs values. turns vs values ∙ ap (λ ss. with_inputs m (turned_below turned ss vs m.situation.inputs)) kept.slots_are)

  pub kept_there : (position free' : ℕ) (marks' : Key → ℕ) (new : Simulation) (after : Entries) → marks' ≡ marks → IsSituated rules f (Some position) new
      → IsMemoryOf marks' new after free' → IsKept rules f slots (Some position) marks' new after free'
  kept_there position free' marks' new after same there memory = record {
    accepted = kept.accepted;
    slots_are = kept.slots_are;
    marked = subst (λ marks. AllMarked marks slots) (sym same) kept.marked;
    situated = there;
    memory = memory;
  }

-- Keys were asked for

module _ {R : Type 0} (find : R → Entries) (rules : RuleSet) (style : RowStyle) (f : RunFile) (position : ℕ) (before turned after : Evaluator R) (keys : List inputs.Key)
    (marks : marks_in turned ≡ marks_in before) (counts : turned.store.counts ≡ before.store.counts)
    (just : AreJust (find before.store.recall) (find turned.store.recall) (λ k. ⊥))
    (had : IsMemoryOf (marks_in before) (simulation_of turned) (find turned.store.recall) turned.store.counts.free) where
  all_passed : IsSituated rules f (Some position) (simulation_of turned) → keys ≡ keys_styled style (told_in (simulation_of turned)) f.conditions f.columns
      → IsMemoryOf (marks_in after) (simulation_of after) (find after.store.recall) after.store.counts.free → HaveAllWorked find turned keys after
      → IsPassed find rules style f before position after
  all_passed there are has went =
      let m = simulation_of turned in
      let same : marks_in after ≡ marks_in before = went.gone.marks ∙ marks in
      let has_too = subst (λ n. IsMemoryOf (marks_in before) n (find after.store.recall) after.store.counts.free) went.gone.same
      (subst (λ ms. IsMemoryOf ms (simulation_of after) (find after.store.recall) after.store.counts.free) same has) in
      record {
        marks = same;
        just = just_for (find before.store.recall) (find after.store.recall) (λ k. ⊥ ⊎ (WorkOfOne m keys k × IsReads (marks_in before) (sources m) k 0))
            (IsStillWork rules style f (marks_in before) position)
            (λ k w. ⊎_elim (λ none. absurd none) (λ work. work_to rules f position style (marks_in before) m there keys are k work) w)
            (λ k w. inr (work_back rules f position style (marks_in before) m there keys are k w))
            (just_on (find before.store.recall) (find turned.store.recall) (find after.store.recall) (λ k. ⊥)
            (λ k. WorkOfOne m keys k × IsReads (marks_in before) (sources m) k 0) just
            (asked_just find (marks_in before) m turned after keys turned.store.counts.free after.store.counts.free refl had has_too went));
        raised = record {
          more_free = went.gone.counted.more_free;
          more_bound = went.gone.counted.more_bound;
          free = went.gone.counted.free ∙ ap (λ (c : Counts). raised c.free went.gone.counted.more_free) counts;
          bound = went.gone.counted.bound ∙ ap (λ (c : Counts). raised c.bound went.gone.counted.more_bound) counts;
        };
        lost = went.lost ∙ ap (λ (c : Counts). c.lost) counts;
      }

  some_refused : IsMemoryOf (marks_in after) (simulation_of after) (find after.store.recall) after.store.counts.free → HaveSomeWorked find turned keys after → IsRefused find before after
  some_refused has went =
      let m = simulation_of turned in
      let same : marks_in after ≡ marks_in before = went.gone.marks ∙ marks in
      let has_too = subst (λ n. IsMemoryOf (marks_in before) n (find after.store.recall) after.store.counts.free) went.gone.same
      (subst (λ ms. IsMemoryOf ms (simulation_of after) (find after.store.recall) after.store.counts.free) same has) in
      record {
        marks = same;
        kept = λ k free. some_kept find (marks_in before) m turned after keys turned.store.counts.free after.store.counts.free had has_too went k (just.kept k free);
        raised = record {
          more_free = went.gone.counted.more_free;
          more_bound = went.gone.counted.more_bound;
          free = went.gone.counted.free ∙ ap (λ (c : Counts). raised c.free went.gone.counted.more_free) counts;
          bound = went.gone.counted.bound ∙ ap (λ (c : Counts). raised c.bound went.gone.counted.more_bound) counts;
        };
        lost = ⊎_elim (λ e. inl (e ∙ ap (λ (c : Counts). c.lost) counts)) (λ e. inr (e ∙ ap (λ (c : Counts). one_more c.lost) counts)) went.lost;
      }

  -- by what the row came to
  pub row_step : (result : Result Selection (RowFault EvalFault)) → IsSituated rules f (Some position) (simulation_of turned)
      → keys ≡ keys_styled style (told_in (simulation_of turned)) f.conditions f.columns
      → IsMemoryOf (marks_in after) (simulation_of after) (find after.store.recall) after.store.counts.free
      → HaveAsked (HasWorked find) (HasRefused find) keys turned after result
      → IsStep (IsPassed find rules style f before position after) (IsRefused find before after) result
  row_step (Ok x) there are has asked = all_passed there are has (all_gone find turned keys after asked)
  row_step (Err (fault.Eval x)) there are has asked = all_passed there are has (all_gone find turned keys after asked)
  row_step (Err fault.Memory) there are has asked = some_refused has (some_gone find turned keys after asked)

  -- the situation and the marks stay
  pub stays : (result : Result Selection (RowFault EvalFault)) → HaveAsked (HasWorked find) (HasRefused find) keys turned after result
      → (simulation_of after ≡ simulation_of turned) × (marks_in after ≡ marks_in turned)
  stays (Ok x) asked = let went = (all_gone find turned keys after asked).gone in (went.same, went.marks)
  stays (Err (fault.Eval x)) asked = let went = (all_gone find turned keys after asked).gone in (went.same, went.marks)
  stays (Err fault.Memory) asked = let went = (some_gone find turned keys after asked).gone in (went.same, went.marks)

-- where nothing else changes
pub with_same : {A B C D E S : Type 0} (P K Q : Type 0) → A → B → C → D → E → S → (result : Result Selection (RowFault EvalFault)) → IsStep P Q result → IsStep K ⊤ result
    → IsStep (A × B × C × D × E × S × P × K) (A × B × C × D × E × S × Q) result
with_same P K Q a b c d e s (Ok x) step more = (a, b, c, d, e, s, step, more)
with_same P K Q a b c d e s (Err (fault.Eval x)) step more = (a, b, c, d, e, s, step, more)
with_same P K Q a b c d e s (Err fault.Memory) step more = (a, b, c, d, e, s, step)
