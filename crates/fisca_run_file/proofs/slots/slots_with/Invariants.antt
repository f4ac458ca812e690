use Rattle.std.proofs.Common.{◌≡◌, ◌++◌, drop}
use Rattle.fisca_run_file.specs.Steps.Slots.{slots_with}
use Rattle.fisca_situations.specs.Views.{slot_list}
use Rattle.fisca_run_file.proofs.slots.slots_with.Given as goal

-- those so far, and those that are left
abbrev pub invariant-loop-i : goal.invariant-loop-i
invariant-loop-i l = slots_with l.tables l.neutral l.wheels l.moved ≡ slot_list l.slots.items ++ slots_with l.tables l.neutral (drop l.i l.wheels) (drop l.i l.moved)
