use Rattle.std.proofs.Common.{sym, subst}
use Rattle.fisca_inputs.specs.Places.{AreOnce}
use Rattle.fisca_evaluator.proofs.Finds.{none_once}
use Rattle.fisca_evaluator.proofs.list_recall.ListRecall.new.Goals as goal

pub invariant_of-result : goal.invariant_of-result
invariant_of-result c = record { once = subst AreOnce (sym c.new.ensures.items) none_once }
