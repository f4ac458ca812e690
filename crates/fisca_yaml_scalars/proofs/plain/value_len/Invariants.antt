use Rattle.std.proofs.Common.{length, ◌-◌, ◌≡◌, ◌++◌, ◌≤◌, take, drop, false}
use Rattle.fisca_yaml_scalars.specs.Scalars.{prepend, key_split, before_comment}
use Rattle.fisca_yaml_scalars.proofs.plain.value_len.Given as goal

abbrev pub invariant-bytes : goal.invariant-bytes
invariant-bytes l = record {
  within : l.at ≤ length l.bytes;
  key : key_split false l.bytes ≡ prepend (take l.at l.bytes) (key_split l.after (drop l.at l.bytes));
  comment : before_comment false l.bytes ≡ take l.at l.bytes ++ before_comment l.after (drop l.at l.bytes);
}

abbrev pub decreases-bytes : goal.decreases-bytes
decreases-bytes l = length l.bytes - l.at
