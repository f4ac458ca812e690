-- How many keys of a whole run read no wheel.
use Rattle.std.proofs.Common.{◌≡◌, ℕ, zero, suc, List, [], ◌∷◌, length, sym, ap, subst, ◌∙◌, arith, ⊎_elim}
use Rattle.fisca_key_semantics.specs.Keys.{In}
use Rattle.fisca_memo_theory.specs.Added.{IsFree, IsFreeKey}
use Rattle.fisca_memo_theory.specs.Entries.{Entries}
use Rattle.fisca_model.specs.Values.{Key}
use Rattle.fisca_evaluator.specs.Counting.{CountsFree, raised}
use Rattle.fisca_evaluator.specs.Evaluators.{marks_in}
use Rattle.fisca_evaluator.specs.declared.evaluator.Evaluator.{Evaluator}
use Rattle.fisca_evaluator.specs.Counted.{no_counts}
use Rattle.fisca_evaluator.specs.declared.counts.Counts.{Counts}
use Rattle.fisca_rows.specs.declared.style.RowStyle.{RowStyle}
use Rattle.fisca_rules.specs.declared.rule_set.RuleSet.{RuleSet}
use Rattle.fisca_grid_run.specs.Remembered.{AreCounts, HasRun, IsStillWorkIn, marks_of_run}
use Rattle.fisca_run_file.specs.RunFiles.{RunFile}

-- where none was counted, no key is there
none_free : (m : Entries) (free : ℕ) → CountsFree m free → free ≡ 0 → (k : Key) → IsFreeKey m k → ⊥
none_free m free counts none k there = by counts.count counts.keys (sym counts.counted ∙ none)
  where
    in_none : (keys : List Key) → length keys ≡ 0 → In k keys → ⊥
    in_none [] h one = one
    in_none (key ∷ keys) h one = absurd (omega (arith, h))

    by : (count : ℕ) → IsFree m count → raised 0 count ≡ 0 → ⊥
    by zero frees h = in_none frees.keys frees.counted ((frees.exact k).1 there)
    by (suc count) frees h = absurd (omega (arith, h))

module _ (rules : RuleSet) (style : RowStyle) (f : RunFile) where
  module _ {R : Type 0} (find : R → Entries) (from stop : ℕ) (old new : Evaluator R) (none : old.store.counts ≡ no_counts)
      (had : CountsFree (find old.store.recall) old.store.counts.free) (marks : marks_in old ≡ marks_of_run rules f) (ran : HasRun find rules style f from stop old new) where
    there : (k : Key) → IsFreeKey (find new.store.recall) k → IsStillWorkIn rules style f (marks_of_run rules f) from stop k
    there k free = ⊎_elim
        (λ (was : IsFreeKey (find old.store.recall) k). absurd (none_free (find old.store.recall) old.store.counts.free had (ap (λ (c : Counts). c.free) none) k was))
        (λ (work : IsStillWorkIn rules style f (marks_in old) from stop k). subst (λ ms. IsStillWorkIn rules style f ms from stop k) marks work)
        (ran.just.only k free)

    back : (k : Key) → IsStillWorkIn rules style f (marks_of_run rules f) from stop k → IsFreeKey (find new.store.recall) k
    back k work = ran.just.all k (subst (λ ms. IsStillWorkIn rules style f ms from stop k) (sym marks) work)

    -- what began with nothing has counted them
    pub run_counted : CountsFree (find new.store.recall) new.store.counts.free → AreCounts rules style f from stop new.store.counts
    run_counted frees =
        record {
          keys = frees.keys.keys;
          different = frees.keys.different;
          exact = λ k. ((λ one. there k ((frees.keys.exact k).0 one)), (λ work. (frees.keys.exact k).1 (back k work)));
          free = frees.counted ∙ ap (raised 0) (sym frees.keys.counted);
          lost = ran.lost ∙ ap (λ (c : Counts). c.lost) none;
        }
