use Rattle.std.proofs.Common.{◌≡◌, ◌++◌, length, reverse}
use Rattle.fisca_parser.specs.Steps.Lines.{lines}
use Rattle.fisca_parser.proofs.line.lines.Given as goal

abbrev pub invariant-loop-found : goal.invariant-loop-found
invariant-loop-found l = reverse (lines l.initial.tokens.items) ≡ l.found.items ++ reverse (lines l.tokens.items)

abbrev pub decreases-loop-found : goal.decreases-loop-found
decreases-loop-found l = length l.tokens.items
