-- What is left behind by a run in one situation.
use Rattle.std.proofs.Common.{◌||◌, ◌≡◌, ◌⊎◌, ◌↔◌, ◌<◌, ◌≤◌, ◌+◌, ◌-◌, ℕ, zero, suc, Bool, true, List, Option, Some, None, Result, Ok, Err, refl, sym, ap, ap₂, subst, ◌∙◌, arith, inl, inr, ⊎_elim}
use Rattle.std.proofs.lemmas.Bool.{cases_lt}
use Rattle.fisca_model.specs.declared.eval_fault.EvalFault.{EvalFault}
use Rattle.fisca_memo_theory.specs.Entries.{Entries}
use Rattle.fisca_inputs.specs.declared.given.Given.{Given}
use Rattle.fisca_writer.specs.Came.{HasCome, HasPassed, Passes}
use Rattle.fisca_writer.specs.declared.fault.RunEnd.{RunEnd}
use Rattle.fisca_writer.specs.declared.fault.RunEnd.TheVariants as end
use Rattle.fisca_writer.specs.declared.fault.RunFault.{RunFault}
use Rattle.fisca_writer.specs.declared.fault.RunFault.TheVariants as fault
use Rattle.fisca_model.specs.Values.{Key}
use Rattle.fisca_evaluator.specs.Evaluators.{marks_in, simulation_of}
use Rattle.fisca_evaluator.specs.declared.evaluator.Evaluator.{Evaluator}
use Rattle.fisca_evaluator.specs.Counted.{one_more}
use Rattle.fisca_rules.specs.declared.rule_set.RuleSet.{RuleSet}
use Rattle.fisca_grid_run.proofs.Lacking.{none_lack, one_lacks}
use Rattle.fisca_grid_run.proofs.Passing.{just_for, just_none, just_on, raised_both, raised_none}
use Rattle.fisca_grid_run.specs.Begun.{file_in}
use Rattle.fisca_grid_run.specs.Ends.{HasLacked, stop_of}
use Rattle.fisca_grid_run.specs.Kept.{AreMoved, IsKept}
use Rattle.fisca_grid_run.specs.Remembered.{HasEnded, HasRun, IsPassed, IsRefused, IsStillWork, IsStillWorkIn}
use Rattle.fisca_grid_run.specs.Runs.{LacksValue, lacks_at, positions}
use Rattle.fisca_rows.specs.declared.style.RowStyle.{RowStyle}
use Rattle.fisca_grid_run.specs.declared.kept_rows.KeptRows.{KeptRows}
use Rattle.fisca_run_file.specs.RunFiles.{RunFile}
use Rattle.fisca_run_file.specs.Views.{file_with}
use Rattle.fisca_situations.specs.declared.slot.Slot.{Slot}
use Rattle.fisca_simulation.specs.Simulations.{Simulation}
use Rattle.fisca_symbols.specs.declared.tables.Tables.{Tables}

module _ {R : Type 0} (find : R → Entries) (rules : RuleSet) (style : RowStyle) (f : RunFile) where
  run_none : (from stop : ℕ) (e : Evaluator R) → from ≡ stop → HasRun find rules style f from stop e e
  run_none from stop e same = record {
    within = omega (arith, same);
    marks = refl;
    just = just_none (find e.store.recall) (IsStillWorkIn rules style f (marks_in e) from stop) (λ k w. absurd (omega (arith, w.begun, w.ended, same)));
    raised = raised_none e.store.counts;
    lost = refl;
  }

  -- one row more
  run_more : (from stop : ℕ) (old between new : Evaluator R) → HasRun find rules style f from stop old between → IsPassed find rules style f between stop new → HasRun find rules style f from (suc stop) old new
  run_more from stop old between new ran step = record {
    within = omega (arith, ran.within);
    marks = step.marks ∙ ran.marks;
    just = just_for (find old.store.recall) (find new.store.recall) (λ k. IsStillWorkIn rules style f (marks_in old) from stop k ⊎ IsStillWork rules style f (marks_in between) stop k)
        (IsStillWorkIn rules style f (marks_in old) from (suc stop)) there back
        (just_on (find old.store.recall) (find between.store.recall) (find new.store.recall) (IsStillWorkIn rules style f (marks_in old) from stop)
        (IsStillWork rules style f (marks_in between) stop) ran.just step.just);
    raised = raised_both old.store.counts between.store.counts new.store.counts ran.raised step.raised;
    lost = step.lost ∙ ran.lost;
  }
    where
      there : (k : Key) → IsStillWorkIn rules style f (marks_in old) from stop k ⊎ IsStillWork rules style f (marks_in between) stop k → IsStillWorkIn rules style f (marks_in old) from (suc stop) k
      there k (inl w) = record { position = w.position; begun = w.begun; ended = omega (arith, w.ended); work = w.work }
      there k (inr w) = record { position = stop; begun = ran.within; ended = omega arith; work = subst (λ marks. IsStillWork rules style f marks stop k) ran.marks w }

      back : (k : Key) → IsStillWorkIn rules style f (marks_in old) from (suc stop) k → IsStillWorkIn rules style f (marks_in old) from stop k ⊎ IsStillWork rules style f (marks_in between) stop k
      back k w = ⊎_elim
          (λ (low : w.position < stop). inl (record { position = w.position; begun = w.begun; ended = low; work = w.work }))
          (λ (high : stop ≤ w.position).
          let last : w.position ≡ stop = omega (arith, high, w.ended) in
          inr (subst (λ p. IsStillWork rules style f (marks_in between) p k) last (subst (λ marks. IsStillWork rules style f marks w.position k) (sym ran.marks) w.work)))
          (cases_lt w.position stop)

  run_refused : (from stop : ℕ) (old between new : Evaluator R) → HasRun find rules style f from stop old between → IsRefused find between new → IsRefused find old new
  run_refused from stop old between new ran refused = record {
    marks = refused.marks ∙ ran.marks;
    kept = λ k free. refused.kept k (ran.just.kept k free);
    raised = raised_both old.store.counts between.store.counts new.store.counts ran.raised refused.raised;
    lost = ⊎_elim (λ e. inl (e ∙ ran.lost)) (λ e. inr (e ∙ ap one_more ran.lost)) refused.lost;
  }

  -- the rows up to the one that ended it were worked out
  pub ended_well : (from : ℕ) (old new : Evaluator R) (ending : RunEnd) → HasEnded find rules style f from old new (Ok ending) → HasRun find rules style f from (stop_of f ending) old new
  ended_well from old new end.End ran = ran
  ended_well from old new (end.More position) ran = ran

-- the file whose rows these are
abbrev FileOf : {R : Type 0} → KeptRows R → RunFile
FileOf r = file_in (simulation_of r.evaluator.now) r.request.now

-- the same rule set, file, slots and style, and the evaluator at the same place, with the same members
abbrev pub IsSame : {R : Type 0} → KeptRows R → KeptRows R → Type 0
IsSame r s = (s.rules.now ≡ r.rules.now) × (s.request.now ≡ r.request.now) × (s.slots.now ≡ r.slots.now) × (s.evaluator.ghost_name ≡ r.evaluator.ghost_name)
    × ((simulation_of s.evaluator.now).situation.members ≡ (simulation_of r.evaluator.now).situation.members) × (s.style.now ≡ r.style.now)

same_none : {R : Type 0} (r : KeptRows R) → IsSame r r
same_none r = (refl, refl, refl, refl, refl, refl)

same_on : {R : Type 0} (a b c : KeptRows R) → IsSame a b → IsSame b c → IsSame a c
same_on a b c first second =
    (second.0 ∙ first.0, second.1 ∙ first.1, second.2 ∙ first.2, second.3 ∙ first.3, second.4 ∙ first.4, second.5 ∙ first.5)

pub same_file : {R : Type 0} (r s : KeptRows R) → IsSame r s → FileOf s ≡ FileOf r
same_file r s same = ap₂ file_with same.4 same.1

module _ {R : Type 0} (find : R → Entries) where
  abbrev Worked : KeptRows R → ℕ → KeptRows R → Type 0
  Worked r position s = (s.rules.now ≡ r.rules.now) × (s.request.now ≡ r.request.now) × (s.slots.now ≡ r.slots.now) × (s.evaluator.ghost_name ≡ r.evaluator.ghost_name)
      × ((simulation_of s.evaluator.now).situation.members ≡ (simulation_of r.evaluator.now).situation.members) × (s.style.now ≡ r.style.now)
      × IsPassed find r.rules.now r.style.now (FileOf r) r.evaluator.now position s.evaluator.now
      × (s.lacks ≡ (r.lacks || lacks_at r.rules.now r.style.now (FileOf r) position))

  abbrev Refused : KeptRows R → ℕ → KeptRows R → Type 0
  Refused r position s = (s.rules.now ≡ r.rules.now) × (s.request.now ≡ r.request.now) × (s.slots.now ≡ r.slots.now) × (s.evaluator.ghost_name ≡ r.evaluator.ghost_name)
      × ((simulation_of s.evaluator.now).situation.members ≡ (simulation_of r.evaluator.now).situation.members) × (s.style.now ≡ r.style.now)
      × IsRefused find r.evaluator.now s.evaluator.now

  -- the flag says whether one of the rows so far had a word in the place of a value
  abbrev HasLackedTo : KeptRows R → ℕ → ℕ → KeptRows R → Type 0
  HasLackedTo old from stop new = (new.lacks ≡ true) ↔ ((old.lacks ≡ true) ⊎ LacksValue old.rules.now old.style.now (FileOf old) from stop)

  abbrev HasGoneTo : KeptRows R → ℕ → ℕ → KeptRows R → Type 0
  HasGoneTo old from stop new = IsSame old new × HasRun find old.rules.now old.style.now (FileOf old) from stop old.evaluator.now new.evaluator.now × HasLackedTo old from stop new

  gone_to : (old : KeptRows R) (from a b : ℕ) (new : KeptRows R) → a ≡ b → HasGoneTo old from a new → HasGoneTo old from b new
  gone_to old from a b new same gone = subst (λ stop. HasGoneTo old from stop new) same gone

  passed : (old : KeptRows R) (from count : ℕ) (new : KeptRows R) → Passes Worked old from count new → HasGoneTo old from (from + count) new
  passed old from zero new none =
      subst (λ s. HasGoneTo old from (from + zero) s) (sym none) (
        same_none old,
        run_none find old.rules.now old.style.now (FileOf old) from (from + zero) old.evaluator.now (omega arith),
        none_lack old.rules.now old.style.now (FileOf old) from (from + zero) old.lacks (omega arith),
      )
  passed old from (suc count) new (between, passes, step) =
      let before = passed old from count between passes in
      let same = before.0 in
      let at = subst (λ r. IsPassed find r old.style.now (FileOf old) between.evaluator.now (from + count) new.evaluator.now) same.0
      (subst (λ style. IsPassed find between.rules.now style (FileOf old) between.evaluator.now (from + count) new.evaluator.now) same.5
      (subst (λ f. IsPassed find between.rules.now between.style.now f between.evaluator.now (from + count) new.evaluator.now) (same_file old between same) step.6)) in
      let here : new.lacks ≡ (between.lacks || lacks_at old.rules.now old.style.now (FileOf old) (from + count)) =
      step.7
      ∙ (ap (λ f. between.lacks || lacks_at between.rules.now between.style.now f (from + count)) (same_file old between same)
      ∙ (ap (λ style. between.lacks || lacks_at between.rules.now style (FileOf old) (from + count)) same.5
      ∙ ap (λ r. between.lacks || lacks_at r old.style.now (FileOf old) (from + count)) same.0)) in
      gone_to old from (suc (from + count)) (from + suc count) new (omega arith) (
        same_on old between new same (step.0, step.1, step.2, step.3, step.4, step.5),
        run_more find old.rules.now old.style.now (FileOf old) from (from + count) old.evaluator.now between.evaluator.now new.evaluator.now before.1 at,
        one_lacks old.rules.now old.style.now (FileOf old) from (from + count) old.lacks between.lacks new.lacks (omega arith) before.2 here,
      )

  past : (old : KeptRows R) (from stop : ℕ) (new : KeptRows R) → HasPassed Worked from stop old new → HasGoneTo old from stop new
  past old from stop new (within, passes) = gone_to old from (from + (stop - from)) stop new (omega (arith, within)) (passed old from (stop - from) new passes)

  -- what a run leaves behind, by what it answers
  pub record HasCameSo (old new : KeptRows R) (from : ℕ) (result : Result RunEnd (RunFault EvalFault)) : Type 0 where
    pub same : IsSame old new
    pub ended : HasEnded find old.rules.now old.style.now (FileOf old) from old.evaluator.now new.evaluator.now result
    pub lacks : HasLacked old.rules.now old.style.now (FileOf old) from old.lacks new.lacks result

  pub came_same : (old new : KeptRows R) (from : ℕ) (result : Result RunEnd (RunFault EvalFault))
      → HasCome Worked Refused (positions (FileOf old)) from old new result → HasCameSo old new from result
  came_same old new from (Ok end.End) came = let gone = past old from (positions (FileOf old)) new came in record { same = gone.0; ended = gone.1; lacks = gone.2 }
  came_same old new from (Ok (end.More position)) came = let gone = past old from position new came in record { same = gone.0; ended = gone.1; lacks = gone.2 }
  came_same old new from (Err fault.BadPosition) came =
      record { same = subst (λ s. IsSame old s) (sym came) (same_none old); ended = ap (λ (s : KeptRows R). s.evaluator.now) came; lacks = tt }
  came_same old new from (Err (fault.Eval position x)) came = let gone = past old from (position + 1) new came in record { same = gone.0; ended = gone.1; lacks = tt }
  came_same old new from (Err (fault.Write position)) came = let gone = past old from (position + 1) new came in record { same = gone.0; ended = gone.1; lacks = tt }
  came_same old new from (Err (fault.Memory position)) (between, passes, refused) =
      let ran = past old from position between passes in record {
        same = same_on old between new ran.0 (refused.0, refused.1, refused.2, refused.3, refused.4, refused.5);
        ended = run_refused find old.rules.now old.style.now (FileOf old) from position old.evaluator.now between.evaluator.now new.evaluator.now ran.1 refused.6;
        lacks = tt;
      }

-- wherever a run stood, it can be gone on with from anywhere

moved_anywhere : (c : Tables) (f : RunFile) (here : Option ℕ) (moved : List Given) → AreMoved c f here moved → AreMoved c f None moved
moved_anywhere c f None moved are = are
moved_anywhere c f (Some position) moved are = inr (position, are.0, are.1)

pub kept_anywhere : (rules : RuleSet) (f : RunFile) (slots : List Slot) (here : Option ℕ) (marks : Key → ℕ) (m : Simulation) (entries : Entries) (free : ℕ)
    → IsKept rules f slots here marks m entries free → IsKept rules f slots None marks m entries free
kept_anywhere rules f slots here marks m entries free kept = record {
  accepted = kept.accepted;
  slots_are = kept.slots_are;
  marked = kept.marked;
  situated = record {
    moved = kept.situated.moved;
    situation = kept.situated.situation;
    moves = moved_anywhere rules.tables f here kept.situated.moved kept.situated.moves;
    is = kept.situated.is;
    same = kept.situated.same;
  };
  memory = kept.memory;
}
