use Rattle.std.specs.Map.{lookup}
use Rattle.fisca_inputs.specs.Entries.{same_key}
use Rattle.fisca_evaluator.proofs.Finds.{found_moved}
use Rattle.fisca_evaluator.proofs.list_recall.ListRecallRecall.drop_moved.Goals as goal

pub returns : goal.returns
returns c k =
    found_moved (λ k. lookup (same_key k) c.args.self.now.pairs.items) (λ k. lookup (same_key k) c.take_out.new.pairs.items) c.args.wheel c.take_out.ensures.left k
