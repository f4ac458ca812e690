-- The definition of tokens beside its sentences.
use Rattle.std.proofs.Common.{◌≡◌, ℕ, ◌+◌, List, [], ◌∷◌, ◌++◌, Bool, true, false, refl}
use Rattle.std.specs.Prelude.{codes, Ok, Err, Some, None, Option, Result}
use Rattle.fisca_num.specs.Literal.{number_of_literal, number_of_parts}
use Rattle.fisca_num.specs.Operations.{number_of}
use Rattle.fisca_ast.specs.declared.fault.FormulaKind.TheVariants as kind
use Rattle.fisca_lexer.specs.declared.token.Class.{Class}
use Rattle.fisca_lexer.specs.declared.token.Class.TheVariants as class
use Rattle.fisca_lexer.specs.declared.token.Mark.TheVariants as mark
use Rattle.fisca_lexer.specs.declared.token.Form.TheVariants as form
use Rattle.fisca_lexer.specs.declared.token.Token.{Token}
use Rattle.fisca_lexer.specs.Layout.{at_line}
use Rattle.fisca_lexer.specs.Steps.Layout.{go_to}
use Rattle.fisca_lexer.specs.Pieces.{piece}
use Rattle.fisca_lexer.specs.Steps.Pieces.{front, number_len, begins_number, begins_exponent}
use Rattle.fisca_lexer.specs.Texts.{joined}
use Rattle.fisca_lexer.specs.Tokens.{tokens_from}
use Rattle.fisca_lexer.specs.Steps.Tokens.{tokens}

-- a token within a line, and the first of a line
abbrev within : ℕ → ℕ → ℕ → Class → Token
within start end line c = record { start = start; end = end; line = line; class = c; indent = None }

abbrev first : ℕ → ℕ → ℕ → Class → ℕ → Token
first start end line c indent = record { start = start; end = end; line = line; class = c; indent = Some indent }

-- Words are ASCII letters, digits and `_`; spaces, tabs and comments are no tokens. A line ends with LF or CR LF.
words : tokens (codes "a_1\t= b # c" ++ 13 ∷ 10 ∷ codes "return") ≡ Ok (first 0 3 1 class.Word 0 ∷ within 4 5 1 (class.Mark mark.Equal) ∷ within 6 7 1 class.Word ∷ first 13 19 2 class.Word 0 ∷ [])
unfolding tokens_from
words = refl

-- A carriage return alone is no line end.
lone_return : tokens (97 ∷ 13 ∷ 98 ∷ []) ≡ Err (at_line 1 kind.Syntax)
unfolding tokens_from
lone_return = refl

-- Within brackets line ends and indentations have no meaning.
brackets : tokens (codes "f(" ++ 10 ∷ 9 ∷ codes "x)" ++ 10 ∷ codes "y") ≡ Ok (first 0 1 1 class.Word 0 ∷ within 1 2 1 (class.Mark mark.Open) ∷ within 4 5 2 class.Word ∷ within 5 6 2 (class.Mark mark.Close) ∷ first 7 8 3 class.Word 0 ∷ [])
unfolding tokens_from
brackets = refl

-- A closing bracket too many leaves the lines as they are.
closed_too_often : tokens (codes ")" ++ 10 ∷ codes "y") ≡ Ok (first 0 1 1 (class.Mark mark.Close) 0 ∷ first 2 3 2 class.Word 0 ∷ [])
unfolding tokens_from
closed_too_often = refl

-- A line that holds nothing but blanks and perhaps a comment is skipped, whatever its indentation.
skipped : tokens (codes "a" ++ 10 ∷ 9 ∷ codes " # b" ++ 10 ∷ codes "c") ≡ Ok (first 0 1 1 class.Word 0 ∷ first 8 9 3 class.Word 0 ∷ [])
unfolding tokens_from
skipped = refl

-- A tab in an indentation.
tab : tokens (codes "a" ++ 10 ∷ 9 ∷ codes "b") ≡ Err (at_line 2 kind.Indent)
unfolding tokens_from
tab = refl

-- A deeper line opens an indentation, and another has to stand at an open one.
deeper : go_to 4 (2 ∷ []) ≡ Some (4 ∷ 2 ∷ [])
deeper = refl

back : go_to 2 (8 ∷ 4 ∷ 2 ∷ []) ≡ Some (2 ∷ [])
back = refl

edge : go_to 0 (8 ∷ 4 ∷ []) ≡ Some []
edge = refl

astray : go_to 3 (8 ∷ 4 ∷ 2 ∷ []) ≡ None
astray = refl

-- A text in quotes: a backslash and the character behind it stand for themselves, and a whole line end does.
escaped : front (codes "'a\\'b' c") ≡ Ok (piece (form.Token class.Quoted) 6 0)
escaped = refl

line_end_taken : front (39 ∷ 92 ∷ 13 ∷ 10 ∷ 39 ∷ []) ≡ Ok (piece (form.Token class.Quoted) 5 1)
line_end_taken = refl

line_end_in_quotes : front (39 ∷ 97 ∷ 10 ∷ 39 ∷ []) ≡ Err kind.Syntax
line_end_in_quotes = refl

empty_quotes : front (codes "'' ") ≡ Ok (piece (form.Token class.Quoted) 2 0)
empty_quotes = refl

-- In three quotes there may be lines, and quotes that are no three.
three_quotes : front (codes "\"\"\"a" ++ 10 ∷ codes "\"\"b\"\"\"c") ≡ Ok (piece (form.Token class.Quoted) 11 1)
three_quotes = refl

unclosed : front (codes "'''a''") ≡ Err kind.Syntax
unclosed = refl

-- Behind `u` and `r` it is the same, behind `f` it is left out, and behind another word it is a token of its own.
raw : front (codes "R'\\''") ≡ Ok (piece (form.Token class.Quoted) 5 0)
raw = refl

filled : front (codes "rF''") ≡ Err kind.Unsupported
filled = refl

bytes : front (codes "b''") ≡ Ok (piece (form.Token class.Word) 1 0)
bytes = refl

-- Numbers: digits with `_` between two of them, and perhaps a point and more digits.
number_of_places : number_len (codes "1_000.5_0_ ") ≡ 9
number_of_places = refl

two_underscores : number_len (codes "1__0") ≡ 1
two_underscores = refl

point_first : begins_number (codes ".5") ≡ true
point_first = refl

-- An exponent is left out, and an `e` without one begins a word.
exponent : begins_exponent (codes "e-5") ≡ true
exponent = refl

no_exponent : begins_exponent (codes "elif") ≡ false
no_exponent = refl

-- What begins no decimal literal is no number in Python either.
leading_zero : front (codes "010") ≡ Err kind.Syntax
unfolding number_of_literal number_of_parts
leading_zero = refl

-- The longer mark stands in front.
longer_mark : front (codes "<=1") ≡ Ok (piece (form.Token (class.Mark mark.LessEqual)) 2 0)
longer_mark = refl

two_marks : front (codes "< =") ≡ Ok (piece (form.Token (class.Mark mark.Less)) 1 0)
two_marks = refl

whole_division : front (codes "//=") ≡ Ok (piece (form.Token (class.Mark mark.WholeDivision)) 2 0)
whole_division = refl

augmented : front (codes "+=1") ≡ Ok (piece (form.Token (class.Mark mark.Augmented)) 2 0)
augmented = refl

-- `%` and a backslash begin what is left out; `@`, `;` and `!` begin nothing.
percent : front (codes "% 2") ≡ Err kind.Unsupported
percent = refl

backslash : front (92 ∷ 10 ∷ []) ≡ Err kind.Unsupported
backslash = refl

decorator : front (codes "@") ≡ Err kind.Syntax
decorator = refl

semicolon : front (codes "; a") ≡ Err kind.Syntax
semicolon = refl

-- Texts side by side are one, whatever stands between them, and one that begins a line is another.
abbrev quoted : ℕ → ℕ → Token
quoted start end = within start end 1 class.Quoted

side_by_side : joined (quoted 0 2 ∷ quoted 3 5 ∷ quoted 6 8 ∷ within 8 9 1 (class.Mark mark.Comma) ∷ quoted 10 12 ∷ []) ≡ quoted 0 8 ∷ within 8 9 1 (class.Mark mark.Comma) ∷ quoted 10 12 ∷ []
side_by_side = refl

on_two_lines : joined (quoted 0 2 ∷ first 3 5 2 class.Quoted 0 ∷ []) ≡ quoted 0 2 ∷ first 3 5 2 class.Quoted 0 ∷ []
on_two_lines = refl
