-- What each mark is for.
use Rattle.fisca_lexer.specs.declared.token.Mark.{Mark}
use Rattle.fisca_lexer.specs.declared.token.Mark.TheVariants as mark
use Rattle.fisca_ast.specs.declared.tree.Operator.{Operator}
use Rattle.fisca_ast.specs.declared.tree.Operator.TheVariants as op
use Rattle.fisca_ast.specs.declared.tree.Comparison.{Comparison}
use Rattle.fisca_ast.specs.declared.tree.Comparison.TheVariants as cmp
use Rattle.fisca_ast.specs.declared.tree.Prefix.{Prefix}
use Rattle.fisca_ast.specs.declared.tree.Prefix.TheVariants as pre
use Rattle.fisca_ast.specs.declared.tree.Delimiter.{Delimiter}
use Rattle.fisca_ast.specs.declared.tree.Delimiter.TheVariants as bracket

abbrev pub operator_mark : Operator → Mark
operator_mark op.Or = mark.Bar
operator_mark op.And = mark.Ampersand
operator_mark op.Add = mark.Plus
operator_mark op.Subtract = mark.Minus
operator_mark op.Multiply = mark.Star
operator_mark op.Divide = mark.Slash

abbrev pub comparison_mark : Comparison → Mark
comparison_mark cmp.Less = mark.Less
comparison_mark cmp.LessEqual = mark.LessEqual
comparison_mark cmp.Greater = mark.Greater
comparison_mark cmp.GreaterEqual = mark.GreaterEqual
comparison_mark cmp.Equal = mark.EqualEqual
comparison_mark cmp.NotEqual = mark.NotEqual

abbrev pub prefix_mark : Prefix → Mark
prefix_mark pre.Plus = mark.Plus
prefix_mark pre.Minus = mark.Minus
prefix_mark pre.Not = mark.Tilde

-- the marks of a pair of brackets
abbrev pub opening_mark : Delimiter → Mark
opening_mark bracket.Round = mark.Open
opening_mark bracket.Square = mark.OpenList
opening_mark bracket.Curly = mark.OpenMap
