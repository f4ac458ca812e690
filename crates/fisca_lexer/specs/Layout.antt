-- Open indentations, and where a reader of tokens stands.
use Rattle.std.specs.Prelude.{ℕ, ◌+◌, List, [], Option, Some, None, Result, Ok, Err}
use Rattle.fisca_ast.specs.declared.fault.FormulaKind.{FormulaKind}
use Rattle.fisca_ast.specs.declared.fault.FormulaKind.TheVariants as kind
use Rattle.fisca_ast.specs.declared.fault.FormulaFault.{FormulaFault}
use Rattle.fisca_lexer.specs.declared.token.Class.{Class}
use Rattle.fisca_lexer.specs.declared.token.Form.{Form}
use Rattle.fisca_lexer.specs.declared.token.Form.TheVariants as form
use Rattle.fisca_lexer.specs.declared.token.Piece.{Piece}
use Rattle.fisca_lexer.specs.declared.token.Token.{Token}
use Rattle.fisca_lexer.specs.declared.layout.Margin.{Margin}
use Rattle.fisca_lexer.specs.declared.layout.Margin.TheVariants as margin
use Rattle.fisca_lexer.specs.declared.layout.Layout.{Layout}
use Rattle.fisca_lexer.specs.Steps.Layout.{go_to, depth_after, behind_blanks, line_start}

-- Lines

-- a text begins at its first line, at the left edge
abbrev pub start : Layout
start = record { line = 1; depth = 0; margin = margin.Spaces 0; levels = [] }

abbrev pub at_line : ℕ → FormulaKind → FormulaFault
at_line line k = record { line = line; kind = k }

abbrev pub begun_at : ℕ → ℕ → Option (List ℕ) → Result (Option ℕ × List ℕ) FormulaFault
begun_at line column None = Err (at_line line kind.Indent)
begun_at line column (Some levels) = Ok (Some column, levels)

-- The indentation of a token that begins a line, and what is open from then on. A tab has no place in an indentation.
abbrev pub begun : ℕ → Margin → List ℕ → Result (Option ℕ × List ℕ) FormulaFault
begun line margin.Tokens levels = Ok (None, levels)
begun line margin.Tabs levels = Err (at_line line kind.Indent)
begun line (margin.Spaces column) levels = begun_at line column (go_to column levels)

abbrev pub token_at : ℕ → Layout → Piece → Class → Option ℕ → Token
token_at at l p c indent = record { start = at; end = at + p.length; line = l.line; class = c; indent = indent }

abbrev pub behind_token : Layout → Piece → Class → List ℕ → Layout
behind_token l p c levels = record { line = l.line + p.lines; depth = depth_after c l.depth; margin = margin.Tokens; levels = levels }

abbrev pub Step : Type 0
Step = Result (Option Token × Layout) FormulaFault

abbrev pub stepped : ℕ → Layout → Piece → Class → Result (Option ℕ × List ℕ) FormulaFault → Step
stepped at l p c (Err f) = Err f
stepped at l p c (Ok b) = Ok (Some (token_at at l p c b.0), behind_token l p c b.1)

-- the token that a piece at this place is, and where the reader stands behind it
abbrev pub step_of : ℕ → Layout → Piece → Form → Step
step_of at l p (form.Token c) = stepped at l p c (begun l.line l.margin l.levels)
step_of at l p form.Spaces = Ok (None, record l { margin = behind_blanks l.margin (margin.Spaces p.length) })
step_of at l p form.Tabs = Ok (None, record l { margin = behind_blanks l.margin margin.Tabs })
step_of at l p form.Comment = Ok (None, l)
step_of at l p form.LineEnd = Ok (None, record l { line = l.line + p.lines; margin = line_start l.depth })

abbrev pub step : ℕ → Layout → Piece → Step
step at l p = step_of at l p p.form
