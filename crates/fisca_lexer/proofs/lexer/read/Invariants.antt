use Rattle.std.proofs.Common.{◌≡◌, ℕ, ◌+◌, ◌-◌, ◌≤◌, length, drop}
use Rattle.fisca_lexer.specs.Tokens.{tokens_from, behind}
use Rattle.fisca_lexer.specs.Layout.{start}
use Rattle.fisca_lexer.proofs.lexer.read.Given as goal

abbrev pub invariant-loop-at : goal.invariant-loop-at
invariant-loop-at l =
    (n : ℕ) × (length l.bytes ≤ n + l.at) × (l.at ≤ length l.bytes) × (l.layout.line ≤ 1 + l.at) × (l.layout.depth ≤ l.at)
    × (tokens_from (length l.bytes) 0 start l.bytes ≡ behind l.found.items (tokens_from n l.at l.layout (drop l.at l.bytes)))

abbrev pub decreases-loop-at : goal.decreases-loop-at
decreases-loop-at l = length l.bytes - l.at
