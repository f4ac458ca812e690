use Rattle.std.proofs.Common.{◌≡◌, ◌++◌, drop, map, string_bytes}
use Rattle.fisca_run_file.specs.Named.{axis_name}
use Rattle.fisca_run_file.specs.Views.{said_list}
use Rattle.fisca_run_file.proofs.names.with_axes.Given as goal

-- those that are left come behind those so far
abbrev pub invariant-loop-axis : goal.invariant-loop-axis
invariant-loop-axis l =
    map (λ name. string_bytes name) l.all.items ++ map (axis_name l.default) (said_list (drop l.axis-index l.axes)) ≡ map (λ name. string_bytes name) l.fn.names.items ++ map (axis_name l.default) (said_list l.axes)
