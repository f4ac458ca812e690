-- What readers of expressions tell.
use Rattle.std.specs.Prelude.{◌≡◌, ℕ, List, ◌≢◌, Result, Ok, Err, length, Option, Some, None, slice_get, ◌-◌}
use Rattle.fisca_ast.specs.declared.fault.FormulaFault.{FormulaFault}
use Rattle.fisca_ast.specs.declared.fault.FormulaKind.TheVariants.{Memory}
use Rattle.fisca_expr_parser.specs.Reading.{Reader, ◌>>=◌, reads, ends}
use Rattle.fisca_lexer.specs.declared.token.Token.{Token}
use Rattle.fisca_expr_parser.specs.declared.mode.Mode.{Mode}
use Rattle.fisca_ast.specs.declared.tree.Expr.{Expr}
use Rattle.fisca_ast.specs.Tree.{Tree}
use Rattle.fisca_ast.specs.Views.{tree}

-- an expression and nothing else
abbrev pub whole : Mode → ℕ → Reader Tree
whole m limit = reads m limit 0 >>= ends

-- this tree was found, unless memory ran out
abbrev pub Finds : Tree → Result Expr FormulaFault → Type 0
Finds e (Ok x) = tree x ≡ e
Finds e (Err f) = ¬ (f.kind ≢ Memory)

-- the line of this token, else this one
abbrev pub line_or : ℕ → Option Token → ℕ
line_or line None = line
line_or line (Some t) = t.line

-- of the token behind which so many are left, or of the last one
abbrev pub line_in : List Token → ℕ → ℕ
line_in tokens left = line_or (line_or 1 (slice_get tokens (length tokens - 1))) (slice_get tokens (length tokens - left))
