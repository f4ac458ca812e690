-- The steps of code behind `Views`:
-- What readers of expressions tell.
use Rattle.std.specs.Prelude.{ℕ, List, Ok, Err, Option, Some, None}
use Rattle.fisca_ast.specs.declared.fault.FormulaFault.{FormulaFault}
use Rattle.fisca_expr_parser.specs.Reading.{Outcome}
use Rattle.fisca_lexer.specs.declared.token.Token.{Token}
use Rattle.fisca_expr_parser.specs.Signs.{signs}
use Rattle.fisca_expr_parser.specs.declared.mode.Mode.{Mode}
use Rattle.fisca_ast.specs.Tree.{Tree}
use Rattle.fisca_expr_parser.specs.Views.{whole, line_in}

abbrev pub placed : List Token → Outcome Tree → Option FormulaFault
placed tokens (Ok x) = None
placed tokens (Err r) = Some (record { line = line_in tokens r.left; kind = r.kind })

-- the first fault from the left, with its line
abbrev pub told : Mode → ℕ → List ℕ → List Token → Option FormulaFault
told m limit source tokens = placed tokens (whole m limit (signs source tokens))
