use Rattle.std.proofs.Common.{length, ◌-◌, ◌≡◌, ◌≤◌, take, drop, false}
use Rattle.fisca_yaml_scalars.specs.Scalars.{prepend, key_split}
use Rattle.fisca_yaml_scalars.proofs.plain.colon.Given as goal

abbrev pub invariant-bytes : goal.invariant-bytes
invariant-bytes l = (l.at ≤ length l.bytes) × (key_split false l.bytes ≡ prepend (take l.at l.bytes) (key_split l.after (drop l.at l.bytes)))

abbrev pub decreases-bytes : goal.decreases-bytes
decreases-bytes l = length l.bytes - l.at
