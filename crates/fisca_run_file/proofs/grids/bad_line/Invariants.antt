use Rattle.std.proofs.Common.{◌≡◌, drop}
use Rattle.fisca_run_file.specs.Steps.Grids.{bad_line}
use Rattle.fisca_run_file.specs.Views.{said_list}
use Rattle.fisca_run_file.proofs.grids.bad_line.Given as goal

abbrev pub invariant-loop-axis : goal.invariant-loop-axis
invariant-loop-axis l = bad_line (said_list l.axes) ≡ bad_line (said_list (drop l.axis-index l.axes))
