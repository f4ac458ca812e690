use Rattle.std.proofs.Common.{◌≡◌, ◌-◌, ◌++◌, length}
use Rattle.std.specs.Prelude.{map}
use Rattle.fisca_parser.specs.Reading.{and_then, pure, block, variable_line}
use Rattle.fisca_ast.specs.ModuleViews.{item}
use Rattle.fisca_parser.proofs.bodies.read_items.Given as goal

abbrev pub invariant-loop-turn : goal.invariant-loop-turn
invariant-loop-turn l =
    block l.indent (variable_line l.text l.end) (length l.initial.lines) l.initial.lines
    ≡ and_then (block l.indent (variable_line l.text l.end) (l._turn-end - l._turn) l.lines) (λ xs. pure (map item l.found.items ++ xs))
