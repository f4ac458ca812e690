use Rattle.std.proofs.Common.{◌≡◌, ◌++◌, drop}
use Rattle.fisca_members.proofs.members.copies_of.Given as goal

abbrev pub invariant-loop-kind : goal.invariant-loop-kind
invariant-loop-kind l = l.copies.items ++ drop l.kind-index l.kinds ≡ l.kinds
