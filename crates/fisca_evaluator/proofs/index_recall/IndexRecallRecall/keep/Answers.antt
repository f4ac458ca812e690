use Rattle.std.proofs.Common.{Option, ◌∙◌}
use Rattle.std.proofs.lemmas.List.{length-set}
use Rattle.std.specs.Map.{lookup}
use Rattle.fisca_inputs.specs.Entries.{same_key}
use Rattle.fisca_model.specs.declared.key.Key.{Key}
use Rattle.fisca_evaluator.specs.Stamps.{if_fresh}
use Rattle.fisca_evaluator.specs.declared.known.Stamped.{Stamped}
use Rattle.fisca_evaluator.proofs.Finds.{found_put}
use Rattle.fisca_evaluator.proofs.Stamped.{put_fresh, put_kept}
use Rattle.fisca_evaluator.proofs.index_recall.IndexRecallRecall.keep.Goals as goal

pub returns-clause-ok : goal.returns-clause-ok
returns-clause-ok c =
    let s = c.args.self.now in
    let old : Key → Option Stamped = λ k. lookup (same_key k) s.entries.entries in
    let new : Key → Option Stamped = λ k. lookup (same_key k) c.put_noted.new.entries.entries in
    found_put (λ k. if_fresh s.turned_at (old k)) (λ k. if_fresh s.turned_at (new k)) c.args.key c.args.known c.keys_lie_in_the_calendar.ensures
    (put_fresh old new s.turned_at s.clock s.kept c.args.key c.args.known c.in_ok-place.ensures.ok s.turned)

pub invariant_of-self-2-clause-kept : goal.invariant_of-self-2-clause-kept
invariant_of-self-2-clause-kept c =
    let s = c.args.self.now in
    let old : Key → Option Stamped = λ k. lookup (same_key k) s.entries.entries in
    let new : Key → Option Stamped = λ k. lookup (same_key k) c.put_noted.new.entries.entries in
    put_kept old new s.turned_at s.clock s.kept c.args.key c.args.known c.in_ok-place.ensures.ok

pub invariant_of-self-2-clause-notes : goal.invariant_of-self-2-clause-notes
invariant_of-self-2-clause-notes c = length-set c.args.self.now.noted _ _ ∙ c.args.self.now.notes
