use Rattle.std.proofs.Common.{◌≡◌, ◌-◌, length, map}
use Rattle.fisca_key_semantics.specs.Answers.{value_within}
use Rattle.fisca_key_semantics.specs.Chains.{asked}
use Rattle.fisca_key_semantics.specs.Inquiry.{of_key}
use Rattle.fisca_key_semantics.specs.Stacks.{left_below}
use Rattle.fisca_memo_theory.specs.Entries.{Remembered}
use Rattle.fisca_memo_theory.specs.Gathered.{IsGathered}
use Rattle.fisca_memo_theory.specs.Work.{Covered, Grows}
use Rattle.fisca_memo_theory.proofs.Reading.{AreRead, ReadsWithin}
use Rattle.fisca_model.specs.Seen.{key_seen, value_seen}
use Rattle.fisca_inputs.specs.Typed.{IsValueOf}
use Rattle.fisca_machine.specs.Plans.{behind_operand, plays}
use Rattle.fisca_simulation.specs.Sound.{GivesOnly}
use Rattle.fisca_evaluator.specs.Counting.{IsCounted}
use Rattle.fisca_evaluator.specs.Recalled.{work_at}
use Rattle.fisca_evaluator.specs.Evaluations.{IsMemoryIn, known_in, marks_in, sources_in}
use Rattle.fisca_evaluator.proofs.played.play.Given as goal

-- the work so far is right, and so is what is remembered
abbrev pub invariant-loop-value : goal.invariant-loop-value
invariant-loop-value g l =
    let src = sources_in l.evaluation in
    let left = behind_operand l.progress (value_seen l.operand) in
    record {
      gathered : IsGathered src (left_below (map key_seen l.fn.keys.items)) (of_key (key_seen l.key) (plays l.plan)) (of_key (key_seen l.key) left) l.tallest (Covered src (Remembered (g.R.Recall.find l.store.recall)));
      reading : IsGathered src (left_below (map key_seen l.fn.keys.items)) (of_key (key_seen l.key) (plays l.plan)) (of_key (key_seen l.key) left) l.tallest
          (ReadsWithin (marks_in l.evaluation) src (left_below (map key_seen l.fn.keys.items)) l.reads);
      read : AreRead (marks_in l.evaluation) src (left_below (map key_seen l.fn.keys.items)) (of_key (key_seen l.key) (plays l.plan)) l.reads;
      sound : GivesOnly (known_in l.evaluation) (IsValueOf (known_in l.evaluation) l.key.variable) left;
      memory : IsMemoryIn l.evaluation (g.R.Recall.find l.store.recall) l.store.counts.free;
      keys : l.keys.items ≡ l.fn.keys.items;
      grows : Grows (g.R.Recall.find l.fn.store.recall) (g.R.Recall.find l.store.recall) (work_at src l.fn.keys.items l.key);
      apart : Remembered (g.R.Recall.find l.store.recall) (key_seen l.key) → Remembered (g.R.Recall.find l.fn.store.recall) (key_seen l.key);
      counted : IsCounted (g.R.Recall.find l.fn.store.recall) (g.R.Recall.find l.store.recall) l.fn.store.counts l.store.counts;
      lost : l.store.counts.lost ≡ l.fn.store.counts.lost;
    }

-- the questions that are left
abbrev pub decreases-loop-value : goal.decreases-loop-value
decreases-loop-value g l =
    let W = value_within (sources_in l.evaluation) (left_below (map key_seen l.fn.keys.items)) in
    length (asked W (of_key (key_seen l.key) (behind_operand l.progress (value_seen l.operand))))
