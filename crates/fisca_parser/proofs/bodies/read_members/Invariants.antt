use Rattle.std.proofs.Common.{◌≡◌, ◌-◌, ◌++◌, length}
use Rattle.fisca_parser.specs.Reading.{and_then, pure, block, enum_line}
use Rattle.fisca_parser.proofs.bodies.read_members.Given as goal

abbrev pub invariant-loop-turn : goal.invariant-loop-turn
invariant-loop-turn l =
    block l.indent (enum_line l.text) (length l.initial.lines) l.initial.lines
    ≡ and_then (block l.indent (enum_line l.text) (l._turn-end - l._turn) l.lines) (λ xs. pure (l.found.items ++ xs))
