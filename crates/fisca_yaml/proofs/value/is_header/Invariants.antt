use Rattle.std.proofs.Common.{◌≡◌, ◌≤◌, ◌-◌, length, drop}
use Rattle.std.specs.Str.{IsCharBoundary}
use Rattle.fisca_yaml.specs.Steps.Grouping.{is_header}
use Rattle.fisca_yaml.proofs.value.is_header.Given as goal

abbrev pub invariant-signs : goal.invariant-signs
invariant-signs l = (l.at ≤ length l.bytes) × IsCharBoundary l.bytes l.at × (is_header l.bytes ≡ is_header (drop l.at l.bytes))

abbrev pub decreases-signs : goal.decreases-signs
decreases-signs l = length l.bytes - l.at
