use Rattle.fisca_grid.specs.Grid.{axes_at}
use Rattle.fisca_grid_run.proofs.OnTheWay.{IsOnTheWay}
use Rattle.fisca_grid_run.proofs.turning.turn_slots.Given as goal

-- those so far are turned
abbrev pub invariant-loop-axis : goal.invariant-loop-axis
invariant-loop-axis g l = IsOnTheWay g.R.Recall.find l.turned l.slots (axes_at l.axes l.position) l.axis l.initial.evaluator l.evaluator
