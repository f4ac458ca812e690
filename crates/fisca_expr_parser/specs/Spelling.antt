-- The grammar: how a tree is spelled, and which trees stand in which place.
use Rattle.std.specs.Prelude.{◌≡◌, ℕ, suc, List, [], ◌∷◌, ◌++◌, Bool, true, ◌&&◌, nat_le}
use Rattle.fisca_expr_parser.specs.declared.sign.Sign.{Sign}
use Rattle.fisca_expr_parser.specs.declared.sign.Sign.TheVariants as sign
use Rattle.fisca_lexer.specs.declared.token.Mark.TheVariants as mark
use Rattle.fisca_expr_parser.specs.Marks.{operator_mark, comparison_mark, prefix_mark, opening_mark}
use Rattle.fisca_expr_parser.specs.Steps.Marks.{closing_mark, bracket_of, binds}
use Rattle.fisca_ast.specs.Steps.Words.{is_name, is_atom}
use Rattle.fisca_expr_parser.specs.declared.mode.Mode.{Mode}
use Rattle.fisca_expr_parser.specs.declared.mode.Place.{Place}
use Rattle.fisca_ast.specs.Tree.{Tree, Series, Argument, name, number, text, bracketed, attribute, applied, prefixed, binary, compare, nothing, last, next, positional, keyword, entry}
use Rattle.fisca_expr_parser.specs.Steps.Spelling.{takes_positional, takes_keyword, takes_entry, takes_many, place_behind, place_in, allows, place_behind_suffix}

abbrev mutual
  pub spelling : Tree → List Sign
  spelling (name t) = sign.Word t ∷ []
  spelling (number t) = sign.Number t ∷ []
  spelling (text t) = sign.Text t ∷ []
  spelling (bracketed b xs) = sign.Mark (opening_mark b) ∷ spelling_all xs ++ sign.Mark (closing_mark b) ∷ []
  spelling (attribute e t) = spelling e ++ sign.Mark mark.Dot ∷ sign.Word t ∷ []
  spelling (applied s f xs) = spelling f ++ sign.Mark (opening_mark (bracket_of s)) ∷ (spelling_all xs ++ sign.Mark (closing_mark (bracket_of s)) ∷ [])
  spelling (prefixed p e) = sign.Mark (prefix_mark p) ∷ spelling e
  spelling (binary o a b) = spelling a ++ sign.Mark (operator_mark o) ∷ spelling b
  spelling (compare o a b) = spelling a ++ sign.Mark (comparison_mark o) ∷ spelling b

  pub spelling_all : Series → List Sign
  spelling_all nothing = []
  spelling_all (last a) = spelling_of a
  spelling_all (next a xs) = spelling_of a ++ sign.Mark mark.Comma ∷ spelling_all xs

  pub spelling_of : Argument → List Sign
  spelling_of (positional e) = spelling e
  spelling_of (keyword k e) = sign.Word k ∷ sign.Mark mark.Equal ∷ spelling e
  spelling_of (entry k e) = spelling k ++ sign.Mark mark.Colon ∷ spelling e

-- Levels, from loosest to tightest: a comparison, |, &, sums, products, prefixes, suffixes and atoms.
abbrev pub level : Tree → ℕ
level (compare o a b) = 0
level (binary o a b) = binds o
level (prefixed p e) = 5
level _ = 6

-- Operators group to the left: the left operand is at the operator's level or tighter, the right one tighter.
abbrev mutual
  pub fits : Mode → Tree → Bool
  fits m (name t) = is_atom t
  fits m (number t) = true
  fits m (text t) = true
  fits m (bracketed b xs) = allows m b && fits_all m (place_in m b) xs
  fits m (attribute e t) = fits m e && (nat_le 6 (level e) && is_name t)
  fits m (applied s f xs) = fits m f && (nat_le 6 (level f) && fits_all m (place_behind_suffix s) xs)
  fits m (prefixed p e) = fits m e && nat_le 5 (level e)
  fits m (binary o a b) = (fits m a && nat_le (binds o) (level a)) && (fits m b && nat_le (suc (binds o)) (level b))
  fits m (compare o a b) = (fits m a && nat_le 1 (level a)) && (fits m b && nat_le 1 (level b))

  pub fits_all : Mode → Place → Series → Bool
  fits_all m p nothing = takes_many p
  fits_all m p (last a) = fits_in m p a
  fits_all m p (next a xs) = takes_many p && (fits_in m p a && fits_all m (place_behind p a) xs)

  pub fits_in : Mode → Place → Argument → Bool
  fits_in m p (positional e) = takes_positional p && fits m e
  fits_in m p (keyword k e) = (takes_keyword p && is_name k) && fits m e
  fits_in m p (entry k e) = takes_entry p && (fits m k && fits m e)

-- the tokens are an expression of this tree
pub record IsExpression (m : Mode) (tokens : List Sign) (e : Tree) : Type 0 where
  pub spelled : spelling e ≡ tokens
  pub fit : fits m e ≡ true
