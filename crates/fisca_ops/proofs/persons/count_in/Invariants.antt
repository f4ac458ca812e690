use Rattle.std.proofs.Common.{◌≡◌, ◌+◌, ◌≤◌, length, drop}
use Rattle.std.specs.Prelude.{Some}
use Rattle.fisca_model.specs.Groups.{with_role}
use Rattle.fisca_groups.specs.Grouped.{grouped}
use Rattle.fisca_ops.proofs.persons.count_in.Given as goal

-- those that are counted, and those that are left
abbrev pub invariant-loop-person : goal.invariant-loop-person
invariant-loop-person l =
    let left = with_role (grouped l.fn.members) l.fn.entity (Some l.fn.wanted) in
    (l.count + length (left (drop l.person-index l.persons)) ≡ length (left l.persons)) × (l.count ≤ l.person-index)
