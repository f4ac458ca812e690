use Rattle.std.proofs.Common.{◌≡◌, ◌≤◌, ◌-◌, ◌++◌, length, take, drop, false}
use Rattle.fisca_yaml_scalars.specs.Scalars.{word, past_word}
use Rattle.fisca_yaml_scalars.proofs.plain.word_len.Given as goal

abbrev pub invariant-bytes : goal.invariant-bytes
invariant-bytes l = (l.n ≤ length l.bytes) × (word false l.bytes ≡ take l.n l.bytes ++ word l.after (drop l.n l.bytes)) × (past_word false l.bytes ≡ past_word l.after (drop l.n l.bytes))

abbrev pub decreases-bytes : goal.decreases-bytes
decreases-bytes l = length l.bytes - l.n
