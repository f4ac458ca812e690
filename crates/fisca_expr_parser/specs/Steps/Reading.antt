-- The steps of code behind `Reading`:
-- Reading from left to right: the tree in front and what follows it, or the first fault.
use Rattle.std.specs.Prelude.{List, [], ◌∷◌, Bool, false, if◌then◌else◌}
use Rattle.fisca_ast.specs.declared.fault.FormulaKind.{FormulaKind}
use Rattle.fisca_ast.specs.declared.fault.FormulaKind.TheVariants.{Syntax, Unsupported}
use Rattle.fisca_expr_parser.specs.declared.sign.Sign.{Sign}
use Rattle.fisca_expr_parser.specs.declared.sign.Sign.TheVariants as sign
use Rattle.fisca_lexer.specs.declared.token.Mark.{Mark}
use Rattle.fisca_lexer.specs.declared.token.Mark.TheVariants as mark
use Rattle.fisca_expr_parser.specs.Steps.Marks.{same_mark}
use Rattle.fisca_ast.specs.Words.{is_left_out}

-- why a token does not fit: it is of a form that is left out, or of none
abbrev pub misfit_mark : Mark → FormulaKind
misfit_mark mark.Power = Unsupported
misfit_mark mark.WholeDivision = Unsupported
misfit_mark _ = Syntax

abbrev pub misfit_of : Sign → FormulaKind
misfit_of (sign.Word t) = if is_left_out t then Unsupported else Syntax
misfit_of (sign.Number t) = Syntax
misfit_of (sign.Text t) = Syntax
misfit_of (sign.Mark m) = misfit_mark m

abbrev pub misfit : List Sign → FormulaKind
misfit [] = Syntax
misfit (s ∷ ts) = misfit_of s

-- what comes next

abbrev pub is_mark : Mark → Sign → Bool
is_mark m (sign.Mark n) = same_mark n m
is_mark m _ = false

abbrev pub begins : Mark → List Sign → Bool
begins m [] = false
begins m (s ∷ ts) = is_mark m s
