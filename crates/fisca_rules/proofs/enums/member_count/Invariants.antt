use Rattle.std.proofs.Common.{◌≡◌, ◌+◌, ◌≤◌, length, drop}
use Rattle.fisca_rules.specs.Steps.Build.{members_of}
use Rattle.fisca_rules.proofs.enums.member_count.Given as goal

abbrev pub invariant-loop-member : goal.invariant-loop-member
invariant-loop-member l = (l.count + length (members_of (drop l.member-index l.members)) ≡ length (members_of l.members)) × (l.count ≤ l.member-index)
