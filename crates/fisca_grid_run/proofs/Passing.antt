-- What is remembered in a run of keys whose work reads no wheel, from position to position.
use Rattle.std.proofs.Common.{◌≡◌, ◌⊎◌, ◌+◌, ℕ, List, Some, Ok, refl, sym, ap, subst, ◌∙◌, inl, inr, ⊎_elim}
use Rattle.fisca_simulation.specs.Told.{told_in}
use Rattle.fisca_memo_theory.proofs.Reading.{reads_none}
use Rattle.fisca_memo_theory.proofs.Turned.{still_here, still_there}
use Rattle.fisca_memo_theory.specs.Added.{IsFreeKey}
use Rattle.fisca_memo_theory.specs.Entries.{Entries}
use Rattle.fisca_memo_theory.specs.Reads.{IsReads, reads_wheel, unless_moved}
use Rattle.fisca_model.specs.declared.key.Key as inputs
use Rattle.fisca_model.specs.Values.{Key}
use Rattle.fisca_evaluator.proofs.Risen.{raised_on}
use Rattle.fisca_evaluator.specs.Counting.{raised}
use Rattle.fisca_evaluator.specs.Evaluators.{IsMemoryOf, simulation_of}
use Rattle.fisca_evaluator.specs.declared.evaluator.Evaluator.{Evaluator}
use Rattle.fisca_evaluator.specs.declared.counts.Counts.{Counts}
use Rattle.fisca_rules.specs.declared.rule_set.RuleSet.{RuleSet}
use Rattle.fisca_grid_run.proofs.Gone.{HaveAllWorked, HaveSomeWorked}
use Rattle.fisca_grid_run.proofs.Still.{free_read, read_free}
use Rattle.fisca_rows.specs.Going.{keys_styled}
use Rattle.fisca_rows.specs.declared.style.RowStyle.{RowStyle}
use Rattle.fisca_grid_run.specs.Kept.{IsSituated}
use Rattle.fisca_grid_run.specs.Remembered.{AreJust, AreRaised, IsStillWork, WorkOfOne}
use Rattle.fisca_grid_run.specs.Runs.{simulation_in}
use Rattle.fisca_run_file.specs.Positions.{situation_with}
use Rattle.fisca_run_file.specs.RunFiles.{RunFile}
use Rattle.fisca_simulation.specs.Simulations.{Simulation, sources}

pub just_none : (m : Entries) (work : Key → Type 0) → ((k : Key) → work k → ⊥) → AreJust m m work
just_none m work none = record { kept = λ k free. free; only = λ k free. inl free; all = λ k w. absurd (none k w) }

-- one after the other
pub just_on : (a b c : Entries) (v w : Key → Type 0) → AreJust a b v → AreJust b c w → AreJust a c (λ k. v k ⊎ w k)
just_on a b c v w first second = record {
  kept = λ k free. second.kept k (first.kept k free);
  only = λ k free. ⊎_elim (λ was. ⊎_elim (λ old. inl old) (λ x. inr (inl x)) (first.only k was)) (λ x. inr (inr x)) (second.only k free);
  all = λ k work. ⊎_elim (λ x. second.kept k (first.all k x)) (λ x. second.all k x) work;
}

pub just_for : (a b : Entries) (v w : Key → Type 0) → ((k : Key) → v k → w k) → ((k : Key) → w k → v k) → AreJust a b v → AreJust a b w
just_for a b v w there back just = record {
  kept = just.kept;
  only = λ k free. ⊎_elim (λ old. inl old) (λ x. inr (there k x)) (just.only k free);
  all = λ k x. just.all k (back k x);
}

pub raised_none : (c : Counts) → AreRaised c c
raised_none c = record { more_free = 0; more_bound = 0; free = refl; bound = refl }

pub raised_both : (a b c : Counts) → AreRaised a b → AreRaised b c → AreRaised a c
raised_both a b c first second = record {
  more_free = first.more_free + second.more_free;
  more_bound = first.more_bound + second.more_bound;
  free = second.free ∙ ap (λ n. raised n second.more_free) first.free ∙ raised_on a.free first.more_free second.more_free;
  bound = second.bound ∙ ap (λ n. raised n second.more_bound) first.bound ∙ raised_on a.bound first.more_bound second.more_bound;
}

-- A wheel turns

pub turned_just : (wheel : ℕ) (old new : Entries) → ((k : Key) → new k ≡ unless_moved wheel (old k)) → AreJust old new (λ k. ⊥)
turned_just wheel old new dropped = record {
  kept = λ k free.
      (free.0, dropped k ∙ still_here wheel (old k) free.0 free.1 (ap (λ reads. reads_wheel reads wheel) free.2 ∙ reads_none wheel), free.2);
  only = λ k free. inl (free.0, (still_there wheel (old k) free.0 (sym (dropped k) ∙ free.1)).0, free.2);
  all = λ k none. absurd none;
}

-- Keys are asked for

module _ {R : Type 0} (find : R → Entries) (marks : Key → ℕ) (m : Simulation) where
  abbrev StillWork : List inputs.Key → Key → Type 0
  StillWork keys k = WorkOfOne m keys k × IsReads marks (sources m) k 0

  pub asked_just : (old new : Evaluator R) (keys : List inputs.Key) (before after : ℕ) → simulation_of old ≡ m
      → IsMemoryOf marks m (find old.store.recall) before → IsMemoryOf marks m (find new.store.recall) after
      → HaveAllWorked find old keys new → AreJust (find old.store.recall) (find new.store.recall) (StillWork keys)
  asked_just old new keys before after is had has went =
      let was = free_read marks (sources m) (find old.store.recall) had.truth had.reads in
      let now = free_read marks (sources m) (find new.store.recall) has.truth has.reads in
      let here = read_free marks (sources m) (find old.store.recall) had.truth had.reads in
      let there = read_free marks (sources m) (find new.store.recall) has.truth has.reads in
      record {
        kept = λ k free. let read = was k free in there k (went.gone.counted.added.kept k read.0) read.1;
        only = λ k free.
            let read = now k free in
            ⊎_elim (λ old. inl (here k old read.1)) (λ work. inr (subst (λ m. WorkOfOne m keys k) is work, read.1)) (went.gone.only k read.0);
        all = λ k work. there k (went.all k (subst (λ m. WorkOfOne m keys k) (sym is) work.0)) work.1;
      }

  pub some_kept : (old new : Evaluator R) (keys : List inputs.Key) (before after : ℕ)
      → IsMemoryOf marks m (find old.store.recall) before → IsMemoryOf marks m (find new.store.recall) after
      → HaveSomeWorked find old keys new → (k : Key) → IsFreeKey (find old.store.recall) k → IsFreeKey (find new.store.recall) k
  some_kept old new keys before after had has went k free =
      let read = free_read marks (sources m) (find old.store.recall) had.truth had.reads k free in
      read_free marks (sources m) (find new.store.recall) has.truth has.reads k (went.gone.counted.added.kept k read.0) read.1

-- The position

module _ (rules : RuleSet) (f : RunFile) (position : ℕ) where
  -- there is one situation at a position
  same_situated : (m n : Simulation) → IsSituated rules f (Some position) m → IsSituated rules f (Some position) n → n ≡ m
  same_situated m n a b =
      let c = rules.tables in
      let both : Some b.moved ≡ Some a.moved = sym b.moves.1 ∙ a.moves.1 in
      let moved : b.moved ≡ a.moved = cc in
      let is : Ok b.situation ≡ Ok a.situation = sym b.is ∙ (ap (situation_with c f) moved ∙ a.is) in
      let situation : b.situation ≡ a.situation = cc in
      b.same ∙ (ap (simulation_in rules f) situation ∙ sym a.same)

  module _ (style : RowStyle) (marks : Key → ℕ) (m : Simulation) (there : IsSituated rules f (Some position) m) (keys : List inputs.Key)
      (are : keys ≡ keys_styled style (told_in m) f.conditions f.columns) where
    pub work_to : (k : Key) → WorkOfOne m keys k × IsReads marks (sources m) k 0 → IsStillWork rules style f marks position k
    work_to k w = record { simulation = m; situated = there; work = subst (λ keys. WorkOfOne m keys k) are w.0; still = w.1 }

    pub work_back : (k : Key) → IsStillWork rules style f marks position k → WorkOfOne m keys k × IsReads marks (sources m) k 0
    work_back k w =
        let same = same_situated m w.simulation there w.situated in (
          subst (λ ks. WorkOfOne m ks k) (sym are) (subst (λ m. WorkOfOne m (keys_styled style (told_in m) f.conditions f.columns) k) same w.work),
          subst (λ m. IsReads marks (sources m) k 0) same w.still,
        )
