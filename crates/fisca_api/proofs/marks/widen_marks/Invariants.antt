use Rattle.std.proofs.Common.{◌≡◌, ◌-◌, ℕ, suc, length}
use Rattle.fisca_api.specs.Marks.{is_at}
use Rattle.fisca_api.proofs.marks.widen_marks.Given as goal

abbrev pub invariant-loop-marks : goal.invariant-loop-marks
invariant-loop-marks l = (x : ℕ) → is_at l.marks.items x ≡ is_at l.initial.marks.items x

abbrev pub decreases-loop-marks : goal.decreases-loop-marks
decreases-loop-marks l = suc l.place - length l.marks.items
