use Rattle.std.proofs.Common.{◌≡◌, Some, take}
use Rattle.fisca_grid.specs.AxesRow.{values_of}
use Rattle.fisca_grid.specs.Grid.{axes_at}
use Rattle.fisca_run_file.proofs.positions.put_steps.Given as goal

-- the values of the axes so far
abbrev pub invariant-loop-axis : goal.invariant-loop-axis
invariant-loop-axis l = values_of (take l.axis (axes_at l.axes l.position)) ≡ Some l.steps.items
