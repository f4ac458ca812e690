use Rattle.std.proofs.Common.{◌≡◌, drop}
use Rattle.fisca_evaluator.specs.Evaluators.{CanAnswer, marks_in, simulation_of}
use Rattle.fisca_explain.specs.Walks.{explaining}
use Rattle.fisca_explain.proofs.ColumnTurns.{AreExplained}
use Rattle.fisca_explain.proofs.explain.explain_all.Given as goal

-- the columns so far are explained
abbrev pub invariant-columns : goal.invariant-columns
invariant-columns g l =
    (g.S.RowSink.failures l.sink ≡ g.S.RowSink.failures l.fn.sink)
    × CanAnswer (marks_in l.evaluator) (simulation_of l.evaluator) (g.R.Recall.find l.evaluator.store.recall) l.evaluator.store.counts.free
    × (simulation_of l.evaluator ≡ simulation_of l.fn.evaluator)
    × AreExplained (explaining l.view (simulation_of l.fn.evaluator)) l.columns (drop l.key-index l.columns) (g.S.RowSink.taken l.fn.sink) (g.S.RowSink.taken l.sink) l.followed
