use Rattle.std.proofs.Common.{◌≡◌, [], drop}
use Rattle.fisca_run_file.specs.Moved.{with_moved}
use Rattle.fisca_run_file.specs.Views.{said_list}
use Rattle.fisca_run_file.proofs.moved.all_moved.Given as goal

abbrev pub invariant-loop-axis : goal.invariant-loop-axis
invariant-loop-axis l =
    let members = l.members in
    with_moved l.tables members l.default [] (said_list l.axes) ≡ with_moved l.tables members l.default l.items.items (said_list (drop l.axis-index l.axes))
