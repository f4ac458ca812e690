use Rattle.std.proofs.Common.{◌≡◌, ◌+◌, ◌-◌, ◌≤◌, length, take, drop, false}
use Rattle.std.specs.Str.{IsAscii}
use Rattle.fisca_lexer.specs.Steps.Pieces.{digits_len}
use Rattle.fisca_lexer.proofs.numbers.digits_len.Given as goal

abbrev pub invariant-loop-n : goal.invariant-loop-n
invariant-loop-n l = (l.n ≤ length l.text) × (digits_len false l.text ≡ l.n + digits_len l.after (drop l.n l.text)) × IsAscii (take l.n l.text)

abbrev pub decreases-loop-n : goal.decreases-loop-n
decreases-loop-n l = length l.text - l.n
