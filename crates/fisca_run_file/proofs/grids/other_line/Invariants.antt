use Rattle.std.proofs.Common.{◌≡◌, drop}
use Rattle.fisca_run_file.specs.Steps.Grids.{other_line}
use Rattle.fisca_run_file.specs.Views.{said_list}
use Rattle.fisca_run_file.proofs.grids.other_line.Given as goal

abbrev pub invariant-loop-axis : goal.invariant-loop-axis
invariant-loop-axis l = other_line l.count (said_list l.axes) ≡ other_line l.count (said_list (drop l.axis-index l.axes))
