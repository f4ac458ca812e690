use Rattle.std.proofs.Common.{◌≡◌, map}
use Rattle.std.specs.List.{range_with_len}
use Rattle.fisca_run_file.specs.Steps.Marks.{marks_of}
use Rattle.fisca_situations.specs.Views.{slot_list}
use Rattle.fisca_run_file.proofs.marks.wheels_of.Given as goal

-- those of the variables so far
abbrev pub invariant-loop-variable : goal.invariant-loop-variable
invariant-loop-variable l = l.wheels.items ≡ map (marks_of (slot_list l.slots)) (range_with_len 0 l.variable)
