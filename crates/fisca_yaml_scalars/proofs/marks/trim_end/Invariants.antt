use Rattle.std.proofs.Common.{◌≡◌, ◌≤◌, length, take}
use Rattle.std.specs.Str.{IsCharBoundary}
use Rattle.fisca_yaml_scalars.specs.Steps.Scalars.{trim_end}
use Rattle.fisca_yaml_scalars.proofs.marks.trim_end.Given as goal

abbrev pub invariant-blanks : goal.invariant-blanks
invariant-blanks l = (l.end ≤ length l.bytes) × IsCharBoundary l.bytes l.end × (trim_end l.bytes ≡ trim_end (take l.end l.bytes))

abbrev pub decreases-blanks : goal.decreases-blanks
decreases-blanks l = l.end
