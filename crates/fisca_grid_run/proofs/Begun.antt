-- What a run begins with.
use Rattle.std.proofs.Common.{◌≡◌, ℕ, zero, suc, List, [], ◌∷◌, length, true, None, Some, Ok, slice_get, refl, sym, ap, subst, ◌∙◌, inl}
use Rattle.fisca_memo_theory.specs.Entries.{Entries}
use Rattle.fisca_model.specs.Values.{Key}
use Rattle.fisca_evaluator.specs.Evaluators.{IsMemoryOf}
use Rattle.fisca_evaluator.specs.Recalled.{marks_of}
use Rattle.fisca_rules.specs.declared.rule_set.RuleSet.{RuleSet}
use Rattle.fisca_grid_run.specs.Kept.{AllMarked, IsKept, IsRunFile}
use Rattle.fisca_grid_run.specs.Runs.{simulation_in}
use Rattle.fisca_run_file.specs.Positions.{situation_with}
use Rattle.fisca_run_file.specs.RunFiles.{RunFile}
use Rattle.fisca_situations.specs.Situations.{Situation}
use Rattle.fisca_run.proofs.Marked.{has_all}
use Rattle.fisca_run.proofs.Within.{all_within}
use Rattle.fisca_run_file.specs.Marks.{has_mark}
use Rattle.fisca_run_file.specs.Steps.Marks.{wheels_of}
use Rattle.fisca_run_file.specs.Steps.Slots.{slots_of}
use Rattle.fisca_situations.specs.Views.{slot as slot_view, slot_list}
use Rattle.fisca_situations.specs.declared.slot.Slot.{Slot}
use Rattle.fisca_simulation.specs.Simulations.{Simulation}

seen_there : (ss : List Slot) (i : ℕ) (s : Slot) → slice_get ss i ≡ Some s → slice_get (slot_list ss) i ≡ Some (slot_view s)
seen_there [] i s h = cc
seen_there (x ∷ ss) zero s h = let same : x ≡ s = cc in ap (λ x. Some (slot_view x)) same
seen_there (x ∷ ss) (suc i) s h = seen_there ss i s h

module _ (rules : RuleSet) (f : RunFile) (slots : List Slot) (accepted : IsRunFile rules f) (are : slot_list slots ≡ slots_of rules.tables f) where
  -- each key of a slot's variable has the wheel's mark
  all_marked : (wheels : List ℕ) → wheels ≡ wheels_of (length rules.tables.variables) (slots_of rules.tables f) → AllMarked (marks_of wheels) slots
  all_marked wheels is i s h =
      let ss = slots_of rules.tables f in
      let at : slice_get ss i ≡ Some (slot_view s) = ap (λ ss. slice_get ss i) (sym are) ∙ seen_there slots i s h in
      let within = all_within rules.tables accepted.tree f accepted.asked.read i (slot_view s) at in
      let mark : has_mark wheels s.variable s.wheel ≡ true =
      ap (λ wheels. has_mark wheels s.variable s.wheel) is ∙ has_all (length rules.tables.variables) ss i (slot_view s) at within.0 within.1 in
      (within.1, λ k same. ap (λ x. has_mark wheels x s.wheel) same ∙ mark)

  pub kept_begun : (wheels : List ℕ) (s : Situation) (m : Simulation) (marks : Key → ℕ) (entries : Entries) (free : ℕ)
      → wheels ≡ wheels_of (length rules.tables.variables) (slots_of rules.tables f) → situation_with rules.tables f f.moved ≡ Ok s → m ≡ simulation_in rules f s
      → marks ≡ marks_of wheels → IsMemoryOf marks m entries free → IsKept rules f slots None marks m entries free
  kept_begun wheels s m marks entries free is there same own memory = record {
    accepted = accepted;
    slots_are = are;
    marked = subst (λ marks. AllMarked marks slots) (sym own) (all_marked wheels is);
    situated = record { moved = f.moved; situation = s; moves = inl refl; is = there; same = same };
    memory = memory;
  }
