-- How an evaluator that remembers stands after it was asked for a key.
use Rattle.std.specs.Prelude.{◌≡◌, None}
use Rattle.fisca_memo_theory.specs.Entries.{Entries, Remembered}
use Rattle.fisca_memo_theory.specs.Work.{Grows}
use Rattle.fisca_model.specs.declared.key.Key.{Key}
use Rattle.fisca_model.specs.Values as meaning
use Rattle.fisca_evaluator.specs.Counting.{IsCounted, IsLost}
use Rattle.fisca_evaluator.specs.Evaluators.{marks_in, simulation_of, work_in}
use Rattle.fisca_evaluator.specs.declared.evaluator.Evaluator.{Evaluator}

-- What is remembered stays so, and what is new is of the work for the key, and counted. Nothing else changes but how many values were lost.
pub record HasGrown {R : Type 0} (find : R → Entries) (old : Evaluator R) (key : Key) (new : Evaluator R) : Type 0 where
  pub same : simulation_of new ≡ simulation_of old
  pub marks : marks_in new ≡ marks_in old
  pub grows : Grows (find old.store.recall) (find new.store.recall) (work_in old key)
  pub counted : IsCounted (find old.store.recall) (find new.store.recall) old.store.counts new.store.counts

-- the key was worked out: all of the work for it is remembered then, and no value was lost
pub record HasWorked {R : Type 0} (find : R → Entries) (old : Evaluator R) (key : Key) (new : Evaluator R) : Type 0 where
  pub grown : HasGrown find old key new
  pub all : (k : meaning.Key) → work_in old key k → Remembered (find new.store.recall) k
  pub lost : new.store.counts.lost ≡ old.store.counts.lost

-- memory was refused: part of the work for the key may be remembered, and at most one value was lost
pub record HasRefused {R : Type 0} (find : R → Entries) (old : Evaluator R) (key : Key) (new : Evaluator R) : Type 0 where
  pub grown : HasGrown find old key new
  pub lost : IsLost None old.store.counts.lost new.store.counts.lost
