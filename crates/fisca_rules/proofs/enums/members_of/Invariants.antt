use Rattle.std.proofs.Common.{◌≡◌, ◌++◌, drop}
use Rattle.fisca_rules.specs.Steps.Build.{members_of}
use Rattle.fisca_rules.proofs.enums.members_of.Given as goal

abbrev pub invariant-loop-member : goal.invariant-loop-member
invariant-loop-member l = l.found.items ++ members_of (drop l.member-index l.members) ≡ members_of l.members
