-- Which statement a line is, as its beginning says.
use Rattle.std.specs.Prelude.{ℕ, List, [], ◌∷◌, Bool, true, false, ◌||◌, if◌then◌else◌, codes}
use Rattle.std.specs.Str.{bytes_eq}
use Rattle.fisca_ast.specs.declared.fault.FormulaKind.{FormulaKind}
use Rattle.fisca_ast.specs.declared.fault.FormulaKind.TheVariants.{Syntax, Unsupported}
use Rattle.fisca_lexer.specs.declared.token.Mark.{Mark}
use Rattle.fisca_lexer.specs.declared.token.Mark.TheVariants as mark
use Rattle.fisca_expr_parser.specs.declared.sign.Sign.{Sign}
use Rattle.fisca_expr_parser.specs.declared.sign.Sign.TheVariants as sign
use Rattle.fisca_ast.specs.Steps.Words.{is_name}
use Rattle.fisca_expr_parser.specs.Steps.Reading.{begins, misfit_mark}
use Rattle.fisca_parser.specs.declared.shape.Shape.{Shape}
use Rattle.fisca_parser.specs.declared.shape.Shape.TheVariants as shape

abbrev pub is : List ℕ → List ℕ → Bool
is t word = bytes_eq t word

abbrev pub is_import : List ℕ → Bool
is_import t = is t (codes "import") || is t (codes "from")

-- a word that begins no statement of Python
abbrev pub begins_nothing : List ℕ → Bool
begins_nothing t = is t (codes "as") || (is t (codes "in") || (is t (codes "is") || (is t (codes "except") || is t (codes "finally"))))

-- `NAME =`, where a keyword is no name
abbrev pub assigned : List ℕ → Shape
assigned t = if is_name t then shape.Assignment else shape.Other Syntax

-- any other statement of Python is left out
abbrev pub worded : List ℕ → List Sign → Shape
worded t ts = if begins mark.Equal ts then assigned t else (if begins_nothing t then shape.Other Syntax else shape.Other Unsupported)

abbrev pub begun_by : List ℕ → List Sign → Shape
begun_by t ts =
    if is_import t then shape.Import
    else (if is t (codes "pass") then shape.Pass
    else (if is t (codes "class") then shape.Class
    else (if is t (codes "def") then shape.Definition
    else (if is t (codes "return") then shape.Return else worded t ts))))

-- a bracket or a prefix begins an expression; other marks begin nothing
abbrev pub marked : Mark → FormulaKind
marked mark.Open = Unsupported
marked mark.OpenList = Unsupported
marked mark.OpenMap = Unsupported
marked mark.Plus = Unsupported
marked mark.Minus = Unsupported
marked mark.Tilde = Unsupported
marked m = misfit_mark m

abbrev pub quoted : List Sign → Shape
quoted [] = shape.Text
quoted (s ∷ ts) = shape.Other Unsupported

abbrev pub shape_at : Sign → List Sign → Shape
shape_at (sign.Word t) ts = begun_by t ts
shape_at (sign.Number t) ts = shape.Other Unsupported
shape_at (sign.Text t) ts = quoted ts
shape_at (sign.Mark m) ts = shape.Other (marked m)

unfoldable pub shape_of : List Sign → Shape
shape_of [] = shape.Other Syntax
shape_of (s ∷ ts) = shape_at s ts

abbrev pub is_text : Shape → Bool
is_text shape.Text = true
is_text _ = false
