-- The steps of code behind `Marks`:
-- What each mark is for.
use Rattle.std.specs.Prelude.{ℕ, Bool, Option, Some, None}
use Rattle.fisca_lexer.specs.declared.token.Mark.{Mark}
use Rattle.fisca_lexer.specs.declared.token.Mark.TheVariants as mark
use Rattle.fisca_ast.specs.declared.tree.Operator.{Operator}
use Rattle.fisca_ast.specs.declared.tree.Operator.TheVariants as op
use Rattle.fisca_ast.specs.declared.tree.Comparison.{Comparison}
use Rattle.fisca_ast.specs.declared.tree.Comparison.TheVariants as cmp
use Rattle.fisca_ast.specs.declared.tree.Prefix.TheVariants as pre
use Rattle.fisca_expr_parser.specs.declared.marks.Joint.{Joint}
use Rattle.fisca_expr_parser.specs.declared.marks.Joint.TheVariants as joint
use Rattle.fisca_expr_parser.specs.declared.marks.Beginning.{Beginning}
use Rattle.fisca_expr_parser.specs.declared.marks.Beginning.TheVariants as begin
use Rattle.fisca_lexer.specs.contracts.token.Mark.{the_type}
use Rattle.fisca_ast.specs.declared.tree.Delimiter.{Delimiter}
use Rattle.fisca_ast.specs.declared.tree.Delimiter.TheVariants as bracket
use Rattle.fisca_ast.specs.declared.tree.Suffix.{Suffix}
use Rattle.fisca_ast.specs.declared.tree.Suffix.TheVariants as suffix
use denote.Enum.Bare.{sameb}

-- how tightly an operator binds
abbrev pub binds : Operator → ℕ
binds op.Or = 1
binds op.And = 2
binds op.Add = 3
binds op.Subtract = 3
binds op.Multiply = 4
binds op.Divide = 4

abbrev pub closing_mark : Delimiter → Mark
closing_mark bracket.Round = mark.Close
closing_mark bracket.Square = mark.CloseList
closing_mark bracket.Curly = mark.CloseMap

abbrev pub bracket_of : Suffix → Delimiter
bracket_of suffix.Call = bracket.Round
bracket_of suffix.Subscript = bracket.Square

-- `==` on marks
unfoldable pub same_mark : Mark → Mark → Bool
same_mark = sameb the_type

abbrev pub joint_of : Mark → Joint
joint_of mark.Dot = joint.Access
joint_of mark.Open = joint.Applied suffix.Call
joint_of mark.OpenList = joint.Applied suffix.Subscript
joint_of mark.Bar = joint.Operates op.Or
joint_of mark.Ampersand = joint.Operates op.And
joint_of mark.Plus = joint.Operates op.Add
joint_of mark.Minus = joint.Operates op.Subtract
joint_of mark.Star = joint.Operates op.Multiply
joint_of mark.Slash = joint.Operates op.Divide
joint_of _ = joint.Ends

abbrev pub tightness : Joint → ℕ
tightness joint.Access = 6
tightness (joint.Applied s) = 6
tightness (joint.Operates o) = binds o
tightness joint.Ends = 0

abbrev pub beginning_of : Mark → Beginning
beginning_of mark.Open = begin.Opens bracket.Round
beginning_of mark.OpenList = begin.Opens bracket.Square
beginning_of mark.OpenMap = begin.Opens bracket.Curly
beginning_of mark.Plus = begin.Sign pre.Plus
beginning_of mark.Minus = begin.Sign pre.Minus
beginning_of mark.Tilde = begin.Sign pre.Not
beginning_of _ = begin.Nothing

abbrev pub comparison_of : Mark → Option Comparison
comparison_of mark.Less = Some cmp.Less
comparison_of mark.LessEqual = Some cmp.LessEqual
comparison_of mark.Greater = Some cmp.Greater
comparison_of mark.GreaterEqual = Some cmp.GreaterEqual
comparison_of mark.EqualEqual = Some cmp.Equal
comparison_of mark.NotEqual = Some cmp.NotEqual
comparison_of _ = None
