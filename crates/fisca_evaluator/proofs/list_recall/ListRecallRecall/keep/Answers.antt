use Rattle.std.specs.Map.{lookup}
use Rattle.fisca_inputs.specs.Entries.{same_key}
use Rattle.fisca_evaluator.proofs.Finds.{found_put, on_ok}
use Rattle.fisca_evaluator.proofs.list_recall.ListRecallRecall.keep.Goals as goal

pub returns-clause-ok : goal.returns-clause-ok
returns-clause-ok c =
    on_ok _ _ c.put.result _ _ (λ put. found_put (λ k. lookup (same_key k) c.args.self.now.pairs.items) (λ k. lookup (same_key k) c.put.new.pairs.items) c.args.key c.args.known c.keys_lie_in_the_calendar.ensures put) c.put.ensures.ok
