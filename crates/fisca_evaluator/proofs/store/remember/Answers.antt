use Rattle.std.proofs.Common.{sym, ap, subst}
use Rattle.fisca_memo_theory.specs.Entries.{with_entry}
use Rattle.fisca_memo_theory.proofs.Growing.{same_entries}
use Rattle.fisca_model.specs.Seen.{key_seen}
use Rattle.fisca_evaluator.specs.Found.{entry_seen}
use Rattle.fisca_evaluator.proofs.Memories.{kept_memory}
use Rattle.fisca_evaluator.specs.Evaluations.{IsMemoryIn, marks_in, sources_in}
use Rattle.fisca_evaluator.proofs.store.remember.Goals as goal

pub returns-in-Ok-clause-memory : goal.returns-in-Ok-clause-memory
returns-in-Ok-clause-memory g c =
    let s = c.args.evaluation.now in
    let old = c.args.store.now in
    let kept = kept_memory (marks_in s) (sources_in s) (g.R.Recall.find old.recall) old.counts.free (key_seen c.args.key.now) (entry_seen c.args.known.now)
    c.requires.memory c.requires.known c.requires.read c.requires.work c.requires.formula c.requires.miss in
    let entries = with_entry (g.R.Recall.find old.recall) (key_seen c.args.key.now) (entry_seen c.args.known.now) in
    subst (λ m. IsMemoryIn s m c.count_kept.new.self.free) (sym (same_entries _ _ c.in-Ok.ensures.ok)) (subst (IsMemoryIn s entries) (sym (ap (λ w. w.free) c.count_kept.ensures)) kept)

pub returns-in-Err-clause-memory : goal.returns-in-Err-clause-memory
returns-in-Err-clause-memory g c =
    let s = c.args.evaluation.now in
    let entries = g.R.Recall.find c.args.store.now.recall in
    subst (λ m. IsMemoryIn s m c.count_lost.new.self.free) (sym (same_entries _ _ c.in-Err.ensures.err)) (subst (IsMemoryIn s entries) (sym (ap (λ w. w.free) c.count_lost.ensures)) c.requires.memory)
