use Rattle.std.proofs.Common.{◌≡◌, take}
use Rattle.fisca_run_file.specs.Steps.Grids.{specs_of}
use Rattle.fisca_run_file.specs.Views.{said_list}
use Rattle.fisca_run_file.proofs.grids.specs_of.Given as goal

abbrev pub invariant-loop-axis : goal.invariant-loop-axis
invariant-loop-axis l = l.specs.items ≡ specs_of (said_list (take l.axis-index l.axes))
