use Rattle.std.proofs.Common.{◌≡◌, ◌≤◌, ◌-◌, length, take, drop}
use Rattle.fisca_yaml_scalars.specs.Scalars.{prepend, double, none}
use Rattle.fisca_yaml_scalars.proofs.quoted.special.Given as goal

abbrev pub invariant-bytes : goal.invariant-bytes
invariant-bytes l = (l.n ≤ length l.bytes) × (double none l.bytes ≡ prepend (take l.n l.bytes) (double none (drop l.n l.bytes)))

abbrev pub decreases-bytes : goal.decreases-bytes
decreases-bytes l = length l.bytes - l.n
