use Rattle.std.proofs.Common.{◌≡◌, ◌-◌, length, drop}
use Rattle.fisca_model.specs.Groups.{with_role}
use Rattle.fisca_groups.specs.Grouped.{grouped}
use Rattle.fisca_ops.proofs.persons.next_of.Given as goal

-- of the persons before the place none has the role
abbrev pub invariant-loop-place : goal.invariant-loop-place
invariant-loop-place l =
    let left = with_role (grouped l.fn.members) l.fn.entity l.fn.role in left (drop l.fn.next l.fn.persons) ≡ left (drop l.place l.fn.persons)

abbrev pub decreases-loop-place : goal.decreases-loop-place
decreases-loop-place l = length l.fn.persons - l.place
