use Rattle.std.proofs.Common.{length, ◌-◌, ◌+◌, ◌≡◌, ◌≤◌, drop}
use Rattle.std.specs.Str.{IsCharBoundary}
use Rattle.fisca_yaml_scalars.specs.Steps.Rows.{following}
use Rattle.fisca_yaml_scalars.proofs.line.Line.following.Given as goal

abbrev pub invariant-blanks : goal.invariant-blanks
invariant-blanks l = (l.skip ≤ length l.bytes) × IsCharBoundary l.bytes l.skip × (following l.number l.column l.bytes ≡ following l.number (l.column + l.skip) (drop l.skip l.bytes))

abbrev pub decreases-blanks : goal.decreases-blanks
decreases-blanks l = length l.bytes - l.skip
