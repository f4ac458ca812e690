use Rattle.std.proofs.Common.{◌≡◌, ◌-◌, ◌++◌, length}
use Rattle.std.specs.Prelude.{map}
use Rattle.fisca_parser.specs.Reading.{and_then, pure, body}
use Rattle.fisca_ast.specs.ModuleViews.{assigned}
use Rattle.fisca_parser.proofs.bodies.read_body.Given as goal

abbrev pub invariant-loop-turn : goal.invariant-loop-turn
invariant-loop-turn l =
    body l.text l.end l.indent (length l.initial.lines) l.initial.lines
    ≡ and_then (body l.text l.end l.indent (l._turn-end - l._turn) l.lines) (λ b. pure (map assigned l.locals.items ++ b.0, b.1))
