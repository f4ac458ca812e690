use Rattle.std.proofs.Common.{length, ◌-◌, ◌≡◌, ◌≤◌, drop}
use Rattle.std.specs.Str.{IsCharBoundary}
use Rattle.fisca_yaml_scalars.specs.Steps.Rows.{indented}
use Rattle.fisca_yaml_scalars.proofs.line.Line.indented.Given as goal

abbrev pub invariant-spaces : goal.invariant-spaces
invariant-spaces l = (l.skip ≤ length l.bytes) × IsCharBoundary l.bytes l.skip × (indented l.number 0 l.bytes ≡ indented l.number l.skip (drop l.skip l.bytes))

abbrev pub decreases-spaces : goal.decreases-spaces
decreases-spaces l = length l.bytes - l.skip
