use Rattle.std.proofs.Common.{◌≡◌, ◌-◌, ℕ, suc, length}
use Rattle.fisca_api.specs.Marks.{wheels_at}
use Rattle.fisca_api.proofs.marks.widen_wheels.Given as goal

abbrev pub invariant-loop-wheels : goal.invariant-loop-wheels
invariant-loop-wheels l = (x : ℕ) → wheels_at l.wheels.items x ≡ wheels_at l.initial.wheels.items x

abbrev pub decreases-loop-wheels : goal.decreases-loop-wheels
decreases-loop-wheels l = suc l.place - length l.wheels.items
