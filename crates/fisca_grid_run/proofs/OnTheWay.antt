-- A situation of which the slots of the first wheels are turned one after another.
use Rattle.std.proofs.Common.{◌≡◌, ◌⊎◌, ◌<◌, ◌≤◌, ℕ, suc, List, map, drop, length, if◌then◌else◌, Some, Ok, slice_get, refl, sym, ap, subst, ◌∙◌, inl, ⊎_elim}
use Rattle.std.proofs.lemmas.Bool.{le-ltb, lt-ltb}
use Rattle.std.proofs.lemmas.List.{drop_all}
use Rattle.std.specs.Option.{ForSome}
use Rattle.fisca_grid.specs.Axes.{step_of}
use Rattle.fisca_grid.specs.AxesRow.{values_of}
use Rattle.fisca_grid.specs.declared.axes.AxisSpec.{AxisSpec}
use Rattle.fisca_memo_theory.specs.Entries.{Entries}
use Rattle.fisca_memo_theory.specs.Reads.{unless_moved}
use Rattle.fisca_model.specs.Values.{Key}
use Rattle.fisca_evaluator.specs.Evaluators.{IsMemoryOf, marks_in, simulation_of, turned_by}
use Rattle.fisca_evaluator.specs.declared.evaluator.Evaluator.{Evaluator}
use Rattle.fisca_num.specs.Number.{Number}
use Rattle.fisca_grid_run.proofs.AxisValues.{one_more, one_passed, value_there}
use Rattle.fisca_grid_run.proofs.Passing.{just_for, just_none, just_on, turned_just}
use Rattle.fisca_grid_run.specs.Kept.{with_inputs}
use Rattle.fisca_grid_run.specs.Remembered.{AreJust}
use Rattle.fisca_slots.specs.Turning.{turned_below}
use Rattle.fisca_situations.specs.Steps.Slots.{turned}
use Rattle.fisca_situations.specs.Views.{slot as slot_view}
use Rattle.fisca_situations.specs.declared.slot.Slot.{Slot}
use Rattle.fisca_simulation.specs.Simulations.{Simulation}

module _ {R : Type 0} (find : R → Entries) (t : ℕ) (slots : List Slot) (axes : List (AxisSpec × ℕ)) where
  -- where the slots from a place on are turned, all are
  pub record IsOnTheWay (i : ℕ) (old now : Evaluator R) : Type 0 where
    pub turning : (values : List Number) → values_of axes ≡ Some values
        → with_inputs (simulation_of now) (turned_below t (map slot_view (drop i slots)) (drop i values) (simulation_of now).situation.inputs)
        ≡ with_inputs (simulation_of old) (turned_below t (map slot_view slots) values (simulation_of old).situation.inputs)
    pub marks : marks_in now ≡ marks_in old
    pub counts : now.store.counts ≡ old.store.counts
    pub just : AreJust (find old.store.recall) (find now.store.recall) (λ k. ⊥)
    pub memory : IsMemoryOf (marks_in old) (simulation_of old) (find old.store.recall) old.store.counts.free
        → IsMemoryOf (marks_in old) (simulation_of now) (find now.store.recall) now.store.counts.free

  pub on_start : (e : Evaluator R) → IsOnTheWay 0 e e
  on_start e = record {
    turning = λ values h. refl;
    marks = refl;
    counts = refl;
    just = just_none (find e.store.recall) (λ k. ⊥) (λ k none. none);
    memory = λ memory. memory;
  }

  module _ (i : ℕ) (s : Slot) (old now new : Evaluator R) (at : slice_get slots i ≡ Some s) (on : IsOnTheWay i old now) where
    -- a slot is passed
    pub on_passed : t ≤ s.wheel → IsOnTheWay (suc i) old now
    on_passed high = record {
      turning = λ values h.
          ap (with_inputs (simulation_of now)) (sym (one_passed t slots values i s (simulation_of now).situation.inputs at (le-ltb s.wheel t high))) ∙ on.turning values h;
      marks = on.marks;
      counts = on.counts;
      just = on.just;
      memory = on.memory;
    }

    -- a slot is turned to the value of its axis
    pub on_turned : (v : Number) → s.wheel < t → i < length axes → ForSome (slice_get axes i) (λ at. step_of at.0 at.1 ≡ Ok v)
        → simulation_of new ≡ turned_by (slot_view s) v (simulation_of now) → marks_in new ≡ marks_in now → new.store.counts ≡ now.store.counts
        → ((k : Key) → find new.store.recall k ≡ unless_moved s.wheel (find now.store.recall k))
        → (IsMemoryOf (marks_in now) (simulation_of now) (find now.store.recall) now.store.counts.free
        → IsMemoryOf (marks_in now) (simulation_of new) (find new.store.recall) new.store.counts.free)
        → IsOnTheWay (suc i) old new
    on_turned v low less step is marks counts dropped memory = record {
      turning = λ values h.
          let es = (simulation_of now).situation.inputs in
          ap (λ (m : Simulation). with_inputs m (turned_below t (map slot_view (drop (suc i) slots)) (drop (suc i) values) m.situation.inputs)) is
          ∙ (ap (λ b. with_inputs (simulation_of now) (turned_below t (map slot_view (drop (suc i) slots)) (drop (suc i) values) (if b then turned (slot_view s) v es else es)))
          (sym (lt-ltb s.wheel t low))
          ∙ (ap (with_inputs (simulation_of now)) (sym (one_more t slots values i s v es at (value_there axes i v values less step h)))
          ∙ on.turning values h));
      marks = marks ∙ on.marks;
      counts = counts ∙ on.counts;
      just = just_for (find old.store.recall) (find new.store.recall) (λ k. ⊥ ⊎ ⊥) (λ k. ⊥) (λ k none. ⊎_elim (λ x. x) (λ x. x) none) (λ k none. inl none)
          (just_on (find old.store.recall) (find now.store.recall) (find new.store.recall) (λ k. ⊥) (λ k. ⊥) on.just
          (turned_just s.wheel (find now.store.recall) (find new.store.recall) dropped));
      memory = λ had.
          subst (λ marks. IsMemoryOf marks (simulation_of new) (find new.store.recall) new.store.counts.free) on.marks
          (memory (subst (λ marks. IsMemoryOf marks (simulation_of now) (find now.store.recall) now.store.counts.free) (sym on.marks) (on.memory had)));
    }

  -- all are turned
  pub on_end : (i : ℕ) (old now : Evaluator R) → length slots ≤ i → IsOnTheWay i old now → (values : List Number) → values_of axes ≡ Some values
      → simulation_of now ≡ with_inputs (simulation_of old) (turned_below t (map slot_view slots) values (simulation_of old).situation.inputs)
  on_end i old now past on values h =
      ap (λ ss. with_inputs (simulation_of now) (turned_below t (map slot_view ss) (drop i values) (simulation_of now).situation.inputs)) (sym (drop_all i slots past))
      ∙ on.turning values h
