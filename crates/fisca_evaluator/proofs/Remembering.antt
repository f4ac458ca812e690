-- A key whose formula is worked out goes onto the stack, and what its formula gives is remembered.
use Rattle.std.proofs.Common.{◌≡◌, inl, ℕ, suc, ◌+◌, ◌<◌, List, [], ◌∷◌, ◌++◌, length, length-append, map, Option, false, sym, ap, subst, ◌∙◌, arith}
use Rattle.std.proofs.lemmas.List.{length-map}
use Rattle.fisca_key_semantics.specs.Answers.{Sources}
use Rattle.fisca_model.specs.Causes.{Fault}
use Rattle.fisca_key_semantics.specs.Inquiry.{of_key}
use Rattle.fisca_key_semantics.specs.Keys.{has}
use Rattle.fisca_key_semantics.specs.Stacks.{left_below, ends_below}
use Rattle.fisca_key_semantics.proofs.Below.{below_formula}
use Rattle.fisca_memo_theory.specs.Added.{AreAdded}
use Rattle.fisca_memo_theory.specs.Entries.{Entry, Entries, Remembered, with_entry}
use Rattle.fisca_memo_theory.specs.Memory.{HasFormula, IsKnown, IsTrueMemory}
use Rattle.fisca_memo_theory.specs.Work.{IsWork, Covered, Grows, PassedPath}
use Rattle.fisca_memo_theory.specs.Stacks as stacks
use Rattle.fisca_memo_theory.proofs.Growing.{kept_here, grows_on, grows_entry}
use Rattle.fisca_memo_theory.proofs.Laws.{work_of_itself}
use Rattle.fisca_memo_theory.proofs.Settled.{at_height, working}
use Rattle.fisca_model.specs.Seen.{key_seen, value_seen}
use Rattle.fisca_model.specs.declared.key.Key.{Key}
use Rattle.fisca_key_semantics.specs.Dialogues as meaning
use Rattle.fisca_model.specs.Values as model
use Rattle.fisca_evaluator.specs.Counted.{with_kept, with_lost}
use Rattle.fisca_evaluator.specs.declared.counts.Counts.{Counts}
use Rattle.fisca_evaluator.specs.declared.known.Known.{Known}
use Rattle.fisca_model.specs.EvalFaults.{IsTold}
use Rattle.fisca_simulation.proofs.Steps.{one_behind}
use Rattle.fisca_evaluator.proofs.Risen.{counted_entry, counted_on}
use Rattle.fisca_evaluator.specs.Counting.{IsCounted}
use Rattle.fisca_evaluator.specs.Recalled.{HasPassed, HasPassedTo, IfTold, IsDoneAt, IsDoneBelow, IsKnownAt, IsKnownBelow, IsStack, IsWorking, work_at, work_below}
use Rattle.fisca_evaluator.specs.Evaluations.{sources_in, wanted, wanted_of_work}
use Rattle.fisca_evaluator.specs.Evaluations as evaluations
use Rattle.fisca_evaluator.specs.declared.evaluation.Evaluation.{Evaluation}

pub grows_none : (m : Entries) (W : model.Key → Type 0) → Grows m m W
grows_none m W = record { kept = λ k r. r; only = λ k r. inl r }

-- The key goes onto the stack

module _ (s : Evaluation) (keys : List Key) (key : Key) where
  abbrev pushed : List Key
  pushed = keys ++ key ∷ []

  pub pushed_working : IsStack (sources_in s) keys key → has (map key_seen keys) (key_seen key) ≡ false → length keys < 100 → IsWorking (sources_in s) (keys ++ key ∷ []) key
  pushed_working stack away room =
      let fits : length (map key_seen keys) < 100 = omega (arith, length-map keys key_seen, room) in
      subst (λ ks. stacks.IsWorking (sources_in s) ks (key_seen key)) (sym (one_behind key_seen keys key))
      (working (sources_in s) (map key_seen keys) (key_seen key) stack (record { room = fits; absent = away }))

  pub pushed_passed : (m : Entries) → HasPassedTo (sources_in s) m keys key → HasPassed (sources_in s) m (keys ++ key ∷ [])
  pushed_passed m p = subst (PassedPath (sources_in s) (Remembered m)) (sym (one_behind key_seen keys key)) p

  -- the key's formula has the fuel that is left for the key
  module _ (room : length keys < 100) where
    left_so : suc (left_below (map key_seen (keys ++ key ∷ []))) ≡ left_below (map key_seen keys)
    left_so =
        let long : length (map key_seen (keys ++ key ∷ [])) ≡ length keys + 1 = length-map (keys ++ key ∷ []) key_seen ∙ length-append keys (key ∷ []) in
        let short : length (map key_seen keys) ≡ length keys = length-map keys key_seen in
        omega (arith, long, short, room)

    pub popped_known : (k : Known) → IsKnownAt (sources_in s) (keys ++ key ∷ []) key k → IsKnownBelow (sources_in s) keys key k
    popped_known k h = subst (λ n. IsKnown (sources_in s) n (key_seen key) (value_seen k.value) k.height) left_so h

    pub popped_grows : (a b : Entries) → Grows a b (work_at (sources_in s) (keys ++ key ∷ []) key) → Grows a b (work_below (sources_in s) keys key)
    popped_grows a b g = subst (λ n. Grows a b (IsWork (sources_in s) n (key_seen key))) left_so g

    pub popped_done : (m : Entries) (o : Option Fault) → IfTold o (IsDoneAt (sources_in s) m (keys ++ key ∷ []) key) → IfTold o (IsDoneBelow (sources_in s) m keys key)
    popped_done m o h = subst (λ n. IfTold o ((k : model.Key) → IsWork (sources_in s) n (key_seen key) k → Remembered m k)) left_so h

    pub popped_fault : (d : meaning.Dialogue) → evaluations.IsWork s d key → (o : Option Fault) → IsTold o (wanted_of_work s (keys ++ key ∷ []) d key) → IsTold o (wanted s keys key)
    popped_fault d is o h =
        let whole = of_key (key_seen key) d in
        let fits : length (map key_seen keys) < 100 = omega (arith, length-map keys key_seen, room) in
        subst (IsTold o)
        (ap (λ ks. ends_below (sources_in s) ks (key_seen key) whole) (one_behind key_seen keys key)
        ∙ sym (below_formula (sources_in s) (map key_seen keys) (key_seen key) whole is.source fits))
        h

-- Its value

module _ (s : Evaluation) (keys : List Key) (key : Key) (v : model.Value) (h : ℕ) (known : IsKnown (sources_in s) (suc (left_below (map key_seen keys))) (key_seen key) v h) where
  pub own_known : IsKnown (sources_in s) h (key_seen key) v h
  own_known = at_height (sources_in s) (suc (left_below (map key_seen keys))) (key_seen key) v h known

  pub own_work : HasFormula (sources_in s) (key_seen key) → work_at (sources_in s) keys key (key_seen key)
  own_work formula = work_of_itself (sources_in s) (suc (left_below (map key_seen keys))) (key_seen key) v formula known.answers

module _ (key : model.Key) (e : Entry) (a b c : Entries) (is : c ≡ with_entry b key e) where
  pub kept_grows : (W : model.Key → Type 0) → W key → Grows a b W → Grows a c W
  kept_grows W w g = subst (λ m. Grows a m W) (sym is) (grows_on a b (with_entry b key e) W g (grows_entry b key e W w))

  pub kept_covered : (src : Sources) → IsTrueMemory src c → Covered src (Remembered c) key
  kept_covered src truth = truth.closed key (subst (λ m. Remembered m key) (sym is) (kept_here b key e))

  pub kept_counted : (x y z : Counts) → IsCounted a b x y → z ≡ with_kept e.reads y → (Remembered b key → ⊥) → IsCounted a c x z
  kept_counted x y z counted kept none =
      let one : IsCounted b (with_entry b key e) y (with_kept e.reads y) = counted_entry b key e y none in
      counted_on a b c x y z counted (subst (λ m. IsCounted b m y z) (sym is) (subst (λ w. IsCounted b (with_entry b key e) y w) (sym kept) one))

pub lost_counted : (a b c : Entries) (x y z : Counts) → c ≡ b → z ≡ with_lost y → IsCounted a b x y → IsCounted a c x z
lost_counted a b c x y z same e counted = record {
  more_free = counted.more_free;
  more_bound = counted.more_bound;
  added = subst (λ m. AreAdded a m (counted.more_free + counted.more_bound)) (sym same) counted.added;
  free = ap (λ w. w.free) e ∙ counted.free;
  bound = ap (λ w. w.bound) e ∙ counted.bound;
}
