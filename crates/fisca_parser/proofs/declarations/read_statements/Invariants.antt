use Rattle.std.proofs.Common.{◌≡◌, ◌-◌, ◌++◌, length}
use Rattle.std.specs.Prelude.{map}
use Rattle.fisca_parser.specs.Reading.{and_then, pure, block, module_line}
use Rattle.fisca_ast.specs.ModuleViews.{statement}
use Rattle.fisca_parser.proofs.declarations.read_statements.Given as goal

abbrev pub invariant-loop-turn : goal.invariant-loop-turn
invariant-loop-turn l =
    block 0 (module_line l.text l.end) (length l.initial.lines) l.initial.lines
    ≡ and_then (block 0 (module_line l.text l.end) (l._turn-end - l._turn) l.lines) (λ xs. pure (map statement l.found.items ++ xs))
