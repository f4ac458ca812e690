use Rattle.std.proofs.Common.{◌≡◌, ◌++◌, drop, map}
use Rattle.fisca_groups.specs.Lookup.{counts_of}
use Rattle.fisca_members.specs.Owned.{kind_in}
use Rattle.fisca_members.proofs.members.counts_of.Given as goal

abbrev pub invariant-loop-kind : goal.invariant-loop-kind
invariant-loop-kind l = l.counts.items ++ counts_of (map (kind_in l.owners) (drop l.kind-index l.kinds)) ≡ counts_of (map (kind_in l.owners) l.kinds)
