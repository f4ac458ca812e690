-- The grammar beside its sentences.
use Rattle.std.proofs.Common.{◌≡◌, ℕ, List, [], ◌∷◌, true, false, refl}
use Rattle.std.specs.Prelude.{codes, Ok, Err}
use Rattle.fisca_ast.specs.declared.fault.FormulaKind.TheVariants as kind
use Rattle.fisca_lexer.specs.declared.token.Mark.{Mark}
use Rattle.fisca_lexer.specs.declared.token.Mark.TheVariants as mark
use Rattle.fisca_expr_parser.specs.declared.sign.Sign.{Sign}
use Rattle.fisca_expr_parser.specs.declared.sign.Sign.TheVariants as sign
use Rattle.fisca_ast.specs.declared.tree.Operator.TheVariants as op
use Rattle.fisca_ast.specs.declared.tree.Comparison.TheVariants as cmp
use Rattle.fisca_ast.specs.declared.tree.Prefix.TheVariants as pre
use Rattle.fisca_ast.specs.declared.tree.Delimiter.TheVariants as bracket
use Rattle.fisca_ast.specs.declared.tree.Suffix.TheVariants as suffix
use Rattle.fisca_expr_parser.specs.declared.mode.Mode.TheVariants as mode
use Rattle.fisca_ast.specs.Tree.{Tree, name, number, bracketed, attribute, applied, prefixed, binary, compare, nothing, last, next, positional, keyword, entry, height}
use Rattle.fisca_expr_parser.specs.Steps.Marks.{same_mark}
use Rattle.fisca_ast.specs.Steps.Groups.{bare}
use Rattle.fisca_ast.specs.Words.{is_left_out}
use Rattle.fisca_ast.specs.Steps.Words.{is_keyword, is_atom}
use Rattle.fisca_expr_parser.specs.Spelling.{fits, IsExpression}
use Rattle.fisca_expr_parser.specs.Reading.{reads, climb, operand, joined, compared, series, argument, enclosed}

abbrev w : Sign
w = sign.Word (codes "a")

abbrev v : Sign
v = sign.Word (codes "b")

abbrev n : Sign
n = sign.Number (codes "1")

abbrev m : Mark → Sign
m = sign.Mark

abbrev a : Tree
a = name (codes "a")

abbrev b : Tree
b = name (codes "b")

abbrev one : Tree
one = number (codes "1")

-- `1 < 1 | 1 & 1` has the comparison at its root and `&` below `|`.
levels : IsExpression mode.Formula (n ∷ m mark.Less ∷ n ∷ m mark.Bar ∷ n ∷ m mark.Ampersand ∷ n ∷ []) (compare cmp.Less one (binary op.Or one (binary op.And one one)))
levels = record { spelled = refl; fit = refl }

-- `a - b - 1` groups to the left.
left : fits mode.Formula (binary op.Subtract (binary op.Subtract a b) one) ≡ true
unfolding is_atom is_keyword
left = refl

right : fits mode.Formula (binary op.Subtract a (binary op.Subtract b one)) ≡ false
unfolding is_atom is_keyword
right = refl

-- A prefix binds tighter than `*` and looser than a call: `-a(1) * 1`.
prefix : fits mode.Formula (binary op.Multiply (prefixed pre.Minus (applied suffix.Call a (last (positional one)))) one) ≡ true
unfolding is_atom is_keyword
prefix = refl

prefix_of_product : fits mode.Formula (prefixed pre.Minus (binary op.Multiply one one)) ≡ false
prefix_of_product = refl

-- A comparison is no operand of another, and stands at the root alone.
compared_twice : fits mode.Formula (compare cmp.Less (compare cmp.Less one one) one) ≡ false
compared_twice = refl

-- A chain of comparisons has no tree: it is left out.
chain : reads mode.Formula 9 0 (n ∷ m mark.Less ∷ n ∷ m mark.Less ∷ n ∷ []) ≡ Err (record { left = 2; kind = kind.Unsupported })
unfolding reads climb operand joined compared same_mark
chain = refl

-- `a(b, b=1,)`: a comma may follow the last argument, and arguments by keyword come behind those by position.
called : reads mode.Formula 9 0 (w ∷ m mark.Open ∷ v ∷ m mark.Comma ∷ v ∷ m mark.Equal ∷ n ∷ m mark.Comma ∷ m mark.Close ∷ [])
    ≡ Ok (applied suffix.Call a (next (positional b) (next (keyword (codes "b") one) nothing)), [])
unfolding reads climb operand joined compared series argument enclosed same_mark is_atom is_keyword is_left_out
called = refl

behind_keyword : fits mode.Formula (applied suffix.Call a (next (keyword (codes "b") one) (last (positional b)))) ≡ false
unfolding is_atom is_keyword
behind_keyword = refl

-- A value may be a tuple or a map, a formula's expression may not.
tuple : fits mode.Value (bracketed bracket.Round (next (positional one) (last (positional one)))) ≡ true
tuple = refl

tuple_in_formula : reads mode.Formula 9 0 (m mark.Open ∷ n ∷ m mark.Comma ∷ n ∷ m mark.Close ∷ []) ≡ Err (record { left = 3; kind = kind.Syntax })
unfolding reads climb operand joined compared series argument enclosed same_mark
tuple_in_formula = refl

map : IsExpression mode.Value (m mark.OpenMap ∷ n ∷ m mark.Colon ∷ n ∷ m mark.CloseMap ∷ []) (bracketed bracket.Curly (last (entry one one)))
map = record { spelled = refl; fit = refl }

map_in_formula : fits mode.Formula (bracketed bracket.Curly nothing) ≡ false
map_in_formula = refl

-- Brackets behind an expression have one expression: `a[b]`.
subscript : reads mode.Formula 9 0 (w ∷ m mark.OpenList ∷ v ∷ m mark.CloseList ∷ []) ≡ Ok (applied suffix.Subscript a (last (positional b)), [])
unfolding reads climb operand joined compared series argument enclosed same_mark is_atom is_keyword is_left_out
subscript = refl

empty_subscript : fits mode.Formula (applied suffix.Subscript a nothing) ≡ false
unfolding is_atom is_keyword
empty_subscript = refl

-- Keywords are no names, `True` and `False` are values, and `None` counts as a name.
truth : fits mode.Formula (name (codes "True")) ≡ true
unfolding is_atom is_keyword
truth = refl

truth_as_attribute : fits mode.Formula (attribute a (codes "True")) ≡ false
unfolding is_atom is_keyword
truth_as_attribute = refl

none : fits mode.Formula (attribute a (codes "None")) ≡ true
unfolding is_atom is_keyword
none = refl

-- `1 if ..` is left out, and `1 in ..` is no expression.
conditional : reads mode.Formula 9 0 (sign.Word (codes "not") ∷ n ∷ []) ≡ Err (record { left = 2; kind = kind.Unsupported })
unfolding reads climb operand is_atom is_keyword is_left_out
conditional = refl

no_operand : reads mode.Formula 9 0 (sign.Word (codes "in") ∷ n ∷ []) ≡ Err (record { left = 2; kind = kind.Syntax })
unfolding reads climb operand is_atom is_keyword is_left_out
no_operand = refl

-- An atom has height 1, and parentheses count one.
parentheses : height (bracketed bracket.Round (last (positional one))) ≡ 2
parentheses = refl

-- Behind `1 +` there is no room within height 1, whatever follows.
too_deep : reads mode.Formula 1 0 (n ∷ m mark.Plus ∷ []) ≡ Err (record { left = 1; kind = kind.TooDeep })
unfolding reads climb operand joined compared
too_deep = refl

-- Parentheses around one expression group, however many; a tuple, an empty pair and a list stay as they are.

abbrev grouped : Tree → Tree
grouped e = bracketed bracket.Round (last (positional e))

grouped_name : bare (grouped (grouped a)) ≡ a
grouped_name = refl

tuple_of_one : bare (bracketed bracket.Round (next (positional a) nothing)) ≡ bracketed bracket.Round (next (positional a) nothing)
tuple_of_one = refl

empty_pair : bare (bracketed bracket.Round nothing) ≡ bracketed bracket.Round nothing
empty_pair = refl

grouped_list : bare (grouped (bracketed bracket.Square (last (positional (grouped a))))) ≡ bracketed bracket.Square (last (positional (grouped a)))
grouped_list = refl
