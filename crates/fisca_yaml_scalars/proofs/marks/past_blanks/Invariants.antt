use Rattle.std.proofs.Common.{◌≡◌, ◌≤◌, ◌-◌, length, drop, false, nat_lt}
use Rattle.std.specs.Str.{IsCharBoundary}
use Rattle.fisca_yaml_scalars.specs.Steps.Scalars.{past_blanks}
use Rattle.fisca_yaml_scalars.proofs.marks.past_blanks.Given as goal

abbrev pub invariant-blanks : goal.invariant-blanks
invariant-blanks l = (l.skip ≤ length l.bytes) × IsCharBoundary l.bytes l.skip × (past_blanks false l.bytes ≡ past_blanks (nat_lt 0 l.skip) (drop l.skip l.bytes))

abbrev pub decreases-blanks : goal.decreases-blanks
decreases-blanks l = length l.bytes - l.skip
