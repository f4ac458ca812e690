use Rattle.std.proofs.Common.{◌≡◌, ◌≤◌, ◌-◌, length, take, drop, false}
use Rattle.fisca_yaml_scalars.specs.Scalars.{prepend, single, is_doubled}
use Rattle.fisca_yaml_scalars.proofs.quoted.quote.Given as goal

abbrev pub invariant-bytes : goal.invariant-bytes
invariant-bytes l =
    (l.n ≤ length l.bytes) × (single false l.bytes ≡ prepend (take l.n l.bytes) (single false (drop l.n l.bytes)))
    × (is_doubled l.bytes ≡ is_doubled (drop l.n l.bytes))

abbrev pub decreases-bytes : goal.decreases-bytes
decreases-bytes l = length l.bytes - l.n
