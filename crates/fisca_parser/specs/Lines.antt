-- The lines of a list of tokens.
use Rattle.std.specs.Prelude.{ℕ, List, [], ◌∷◌, Option, Some, None}
use Rattle.fisca_ast.specs.declared.fault.FormulaKind.{FormulaKind}
use Rattle.fisca_ast.specs.declared.fault.FormulaFault.{FormulaFault}
use Rattle.fisca_lexer.specs.declared.token.Token.{Token}

-- a line: how far it is indented, and its tokens
pub record Line : Type 0 where
  pub indent : ℕ
  pub tokens : List Token

abbrev pub line_by : Option ℕ → List Token → List Line → List Line
line_by None ts others = others
line_by (Some indent) ts others = record { indent = indent; tokens = ts } ∷ others

-- the indentation of the first token, if it begins a line
abbrev pub indent_of : List Token → Option ℕ
indent_of [] = None
indent_of (t ∷ ts) = t.indent

abbrev pub fault : ℕ → FormulaKind → FormulaFault
fault line k = record { line = line; kind = k }
