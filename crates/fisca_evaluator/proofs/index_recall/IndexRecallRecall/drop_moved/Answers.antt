use Rattle.std.proofs.Common.{◌+◌, Option, slice_set, arith}
use Rattle.std.specs.Map.{lookup}
use Rattle.fisca_inputs.specs.Entries.{same_key}
use Rattle.fisca_model.specs.declared.key.Key.{Key}
use Rattle.fisca_evaluator.specs.Stamps.{if_fresh}
use Rattle.fisca_evaluator.specs.declared.known.Stamped.{Stamped}
use Rattle.fisca_evaluator.proofs.Finds.{found_moved}
use Rattle.fisca_evaluator.proofs.Stamped.{turned_fresh, left_fresh}
use Rattle.fisca_evaluator.proofs.index_recall.IndexRecallRecall.drop_moved.Goals as goal

pub returns-then-self-lt18446744073709551615 : goal.returns-then-self-lt18446744073709551615
returns-then-self-lt18446744073709551615 c =
    let s = c.args.self.now in
    let old : Key → Option Stamped = λ k. lookup (same_key k) s.entries.entries in
    found_moved (λ k. if_fresh s.turned_at (old k)) (λ k. if_fresh (slice_set s.turned_at c.args.wheel (s.clock + 1)) (old k)) c.args.wheel
    (turned_fresh old old s.turned_at s.clock s.kept c.args.wheel (omega (arith, c.requires, s.sixteen)))

pub returns-else-self-lt18446744073709551615 : goal.returns-else-self-lt18446744073709551615
returns-else-self-lt18446744073709551615 c =
    let s = c.args.self.now in
    let old : Key → Option Stamped = λ k. lookup (same_key k) s.entries.entries in
    let new : Key → Option Stamped = λ k. lookup (same_key k) c.take_out.new.entries.entries in
    found_moved (λ k. if_fresh s.turned_at (old k)) (λ k. if_fresh s.turned_at (new k)) c.args.wheel (left_fresh old new s.turned_at s.clock s.kept c.args.wheel c.take_out.ensures.left)
