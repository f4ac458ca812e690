use Rattle.std.proofs.Common.{◌≡◌, ◌+◌, ◌≤◌, length}
use denote.Text.{Utf8}
use denote.Shadow.{shadow}
use Rattle.std.specs.Str.Lines.{lines}
use Rattle.fisca_yaml_scalars.specs.Steps.Rows.{rows}
use Rattle.fisca_yaml_scalars.proofs.lines.next_line.Given as goal

abbrev pub invariant-lines : goal.invariant-lines
invariant-lines l = shadow (Utf8 l.rest) × (rows l.number (lines l.text) ≡ rows l.at (lines l.rest)) × (l.at + length l.rest ≤ l.number + length l.text) × (l.number ≤ l.at)

abbrev pub decreases-lines : goal.decreases-lines
decreases-lines l = length l.rest
