use Rattle.std.proofs.Common.{◌≡◌, length}
use Rattle.fisca_lexer.specs.Steps.Layout.{within}
use Rattle.fisca_lexer.proofs.levels.Levels.close.Given as goal

abbrev pub invariant-loop-self : goal.invariant-loop-self
invariant-loop-self l = within l.column l.self ≡ within l.column l.initial.self

abbrev pub decreases-loop-self : goal.decreases-loop-self
decreases-loop-self l = length l.self
