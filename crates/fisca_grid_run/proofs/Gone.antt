-- What an evaluator remembers after it was asked for keys one after another.
use Rattle.std.proofs.Common.{◌≡◌, ◌⊎◌, List, [], ◌∷◌, refl, sym, ap, subst, ◌∙◌, inl, inr, ⊎_elim}
use Rattle.fisca_situations.specs.Asked.{Asks, AsksSome}
use Rattle.fisca_memo_theory.specs.Entries.{Entries, Remembered}
use Rattle.fisca_model.specs.declared.key.Key as inputs
use Rattle.fisca_model.specs.Values.{Key}
use Rattle.fisca_evaluator.proofs.Risen.{counted_none, counted_on}
use Rattle.fisca_evaluator.specs.Asked.{HasGrown, HasRefused, HasWorked}
use Rattle.fisca_evaluator.specs.Counting.{IsCounted}
use Rattle.fisca_evaluator.specs.Evaluators.{marks_in, simulation_of}
use Rattle.fisca_evaluator.specs.declared.evaluator.Evaluator.{Evaluator}
use Rattle.fisca_evaluator.specs.Counted.{one_more}
use Rattle.fisca_grid_run.specs.Remembered.{IsOneOf, WorkOfOne, work_of}

module _ {R : Type 0} (find : R → Entries) where
  abbrev entries : Evaluator R → Entries
  entries e = find e.store.recall

  -- the situation stays, and what is new is of the work for one of the keys
  pub record HasGone (old : Evaluator R) (keys : List inputs.Key) (new : Evaluator R) : Type 0 where
    pub same : simulation_of new ≡ simulation_of old
    pub marks : marks_in new ≡ marks_in old
    pub counted : IsCounted (entries old) (entries new) old.store.counts new.store.counts
    pub only : (k : Key) → Remembered (entries new) k → Remembered (entries old) k ⊎ WorkOfOne (simulation_of old) keys k

  -- and all of it is remembered
  pub record HaveAllWorked (old : Evaluator R) (keys : List inputs.Key) (new : Evaluator R) : Type 0 where
    pub gone : HasGone old keys new
    pub all : (k : Key) → WorkOfOne (simulation_of old) keys k → Remembered (entries new) k
    pub lost : new.store.counts.lost ≡ old.store.counts.lost

  pub record HaveSomeWorked (old : Evaluator R) (keys : List inputs.Key) (new : Evaluator R) : Type 0 where
    pub gone : HasGone old keys new
    pub lost : (new.store.counts.lost ≡ old.store.counts.lost) ⊎ (new.store.counts.lost ≡ one_more old.store.counts.lost)

  gone_none : (e : Evaluator R) (keys : List inputs.Key) → HasGone e keys e
  gone_none e keys = record { same = refl; marks = refl; counted = counted_none (entries e) e.store.counts; only = λ k there. inl there }

  -- one key more in front
  gone_first : (old new : Evaluator R) (key : inputs.Key) (keys : List inputs.Key) → HasGrown find old key new → HasGone old (key ∷ keys) new
  gone_first old new key keys step = record {
    same = step.same;
    marks = step.marks;
    counted = step.counted;
    only = λ k there. ⊎_elim (λ was. inl was) (λ work. inr (key, inl refl, work)) (step.grows.only k there);
  }

  -- the same keys' work in the same situation
  work_later : (old between : Evaluator R) (key : inputs.Key) (keys : List inputs.Key) (k : Key) → simulation_of between ≡ simulation_of old → WorkOfOne (simulation_of between) keys k
      → WorkOfOne (simulation_of old) (key ∷ keys) k
  work_later old between key keys k same w = (w.0, inr w.1, subst (λ m. work_of m w.0 k) same w.2)

  gone_more : (old between new : Evaluator R) (key : inputs.Key) (keys : List inputs.Key) → HasGrown find old key between → HasGone between keys new → HasGone old (key ∷ keys) new
  gone_more old between new key keys step rest = record {
    same = rest.same ∙ step.same;
    marks = rest.marks ∙ step.marks;
    counted = counted_on (entries old) (entries between) (entries new) old.store.counts between.store.counts new.store.counts step.counted rest.counted;
    only = λ k there. ⊎_elim
        (λ was. (gone_first old between key keys step).only k was)
        (λ work. inr (work_later old between key keys k step.same work))
        (rest.only k there);
  }

  worked_by : (old between new : Evaluator R) (key : inputs.Key) (keys : List inputs.Key) → HasWorked find old key between → HaveAllWorked between keys new
      → (k : Key) (q : inputs.Key) → (q ≡ key) ⊎ IsOneOf keys q → work_of (simulation_of old) q k → Remembered (entries new) k
  worked_by old between new key keys step rest k q (inl first) work =
      rest.gone.counted.added.kept k (step.all k (subst (λ q. work_of (simulation_of old) q k) first work))
  worked_by old between new key keys step rest k q (inr later) work = rest.all k (q, later, subst (λ m. work_of m q k) (sym step.grown.same) work)

  pub all_gone : (old : Evaluator R) (keys : List inputs.Key) (new : Evaluator R) → Asks (HasWorked find) old keys new → HaveAllWorked old keys new
  all_gone old [] new asked =
      subst (HaveAllWorked old []) (sym asked) (record { gone = gone_none old []; all = λ k w. absurd (w.1); lost = refl })
  all_gone old (key ∷ keys) new (between, step, asked) =
      let rest = all_gone between keys new asked in
      record {
        gone = gone_more old between new key keys step.grown rest.gone;
        all = λ k w. worked_by old between new key keys step rest k w.0 w.1 w.2;
        lost = rest.lost ∙ step.lost;
      }

  pub some_gone : (old : Evaluator R) (keys : List inputs.Key) (new : Evaluator R) → AsksSome (HasWorked find) (HasRefused find) old keys new → HaveSomeWorked old keys new
  some_gone old [] new asked = subst (HaveSomeWorked old []) (sym asked) (record { gone = gone_none old []; lost = inl refl })
  some_gone old (key ∷ keys) new (inl none) = subst (HaveSomeWorked old (key ∷ keys)) (sym none) (record { gone = gone_none old (key ∷ keys); lost = inl refl })
  some_gone old (key ∷ keys) new (inr (inl refused)) = record { gone = gone_first old new key keys refused.grown; lost = refused.lost }
  some_gone old (key ∷ keys) new (inr (inr (between, step, asked))) =
      let rest = some_gone between keys new asked in
      record {
        gone = gone_more old between new key keys step.grown rest.gone;
        lost = ⊎_elim (λ e. inl (e ∙ step.lost)) (λ e. inr (e ∙ ap one_more step.lost)) rest.lost;
      }
