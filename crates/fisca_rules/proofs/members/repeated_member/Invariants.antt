use Rattle.std.proofs.Common.{[], drop}
use Rattle.std.specs.Str.{bytes_eq}
use Rattle.indexmap.specs.IndexSet.{contains}
use Rattle.fisca_rules.proofs.Repeated.{Reached}
use Rattle.fisca_rules.specs.Steps.Clashes.{repeated_member}
use Rattle.fisca_rules.proofs.members.repeated_member.Given as goal

abbrev pub invariant-loop-member : goal.invariant-loop-member
invariant-loop-member l = Reached (contains bytes_eq l.names) (repeated_member [] l.members) (drop l.member-index l.members)
