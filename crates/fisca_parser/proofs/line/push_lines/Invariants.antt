use Rattle.std.proofs.Common.{◌≡◌, ◌≤◌, ◌++◌, length, take, reverse}
use Rattle.fisca_parser.specs.Steps.Lines.{lines}
use Rattle.fisca_parser.proofs.line.push_lines.Given as goal

abbrev pub invariant-loop-start : goal.invariant-loop-start
invariant-loop-start l = (l.initial.found.items ++ reverse (lines l.group.value.items) ≡ l.found.items ++ reverse (lines (take l.end l.group.value.items))) × (l.end ≤ length l.group.value.items)

abbrev pub decreases-loop-start : goal.decreases-loop-start
decreases-loop-start l = l.end
