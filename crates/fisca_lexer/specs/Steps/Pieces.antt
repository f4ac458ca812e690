-- The steps of code behind `Pieces`:
-- What stands in front of a text: the longest piece of its form, or why none can be read.
use Rattle.std.specs.Prelude.{ℕ, suc, ◌+◌, ◌*◌, ◌%◌, List, [], ◌∷◌, take, drop, count_by, nat_lt, Bool, true, false, not, ◌==◌, ◌||◌, ◌&&◌, if◌then◌else◌, Option, Some, None, Result, Ok, Err}
use Rattle.std.specs.Char.{is_ascii_alphanumeric, is_ascii_digit}
use Rattle.std.specs.List.{prefix_len}
use Rattle.unicode_ident.specs.Ident.{is_xid_start}
use Rattle.fisca_num.specs.declared.faults.NumFault.{NumFault}
use Rattle.fisca_num.specs.declared.faults.NumFault.TheVariants.{TooWide, ZeroDivisor, NotANumber, Memory}
use Rattle.fisca_num.specs.Number.{Number}
use Rattle.fisca_num.specs.Literal.{number_of_literal}
use Rattle.fisca_ast.specs.declared.fault.FormulaKind.{FormulaKind}
use Rattle.fisca_ast.specs.declared.fault.FormulaKind.TheVariants as kind
use Rattle.fisca_lexer.specs.declared.token.Mark.{Mark}
use Rattle.fisca_lexer.specs.declared.token.Class.{Class}
use Rattle.fisca_lexer.specs.declared.token.Class.TheVariants as class
use Rattle.fisca_lexer.specs.declared.token.Form.TheVariants as form
use Rattle.fisca_lexer.specs.declared.token.Piece.{Piece}
use Rattle.fisca_ast.specs.Strings.{begins_quote, is_quote, is_prefix, is_format}
use Rattle.fisca_ast.specs.Steps.Strings.{begins, string_len}
use Rattle.fisca_lexer.specs.Steps.Marks.{pair, single}
use Rattle.fisca_ast.specs.Strings.{in_comment}
use Rattle.fisca_lexer.specs.Pieces.{is_space, piece}

abbrev pub is_word_byte : ℕ → Bool
is_word_byte b = is_ascii_alphanumeric b || (b == 95)

abbrev pub is_blank : ℕ → Bool
is_blank b = (b == 32) || (b == 9)

abbrev pub is_line_feed : ℕ → Bool
is_line_feed b = b == 10

abbrev pub line_feeds : List ℕ → ℕ
line_feeds = count_by is_line_feed

-- a token on one line
abbrev pub token : Class → ℕ → Result Piece FormulaKind
token c n = Ok (piece (form.Token c) n 0)

-- Numbers

abbrev pub begins_digit : List ℕ → Bool
begins_digit [] = false
begins_digit (b ∷ bs) = is_ascii_digit b

-- how many digits stand in front, with `_` between two of them; the flag: a digit stands right before
abbrev pub digits_len : Bool → List ℕ → ℕ
digits_len after [] = 0
digits_len after (b ∷ bs) =
    if is_ascii_digit b then suc (digits_len true bs)
    else (if after && ((b == 95) && begins_digit bs) then suc (digits_len false bs) else 0)

abbrev pub begins_number : List ℕ → Bool
begins_number [] = false
begins_number (b ∷ bs) = is_ascii_digit b || ((b == 46) && begins_digit bs)

-- digits, and perhaps a point and more digits
abbrev pub number_len : List ℕ → ℕ
number_len bs =
    if begins 46 (drop (digits_len false bs) bs) then digits_len false bs + 1 + digits_len false (drop (digits_len false bs + 1) bs)
    else digits_len false bs

abbrev pub is_sign : ℕ → Bool
is_sign b = (b == 43) || (b == 45)

abbrev pub begins_size : List ℕ → Bool
begins_size [] = false
begins_size (b ∷ bs) = is_ascii_digit b || (is_sign b && begins_digit bs)

-- `e` and a whole number: the exponent of a number, which is left out
abbrev pub begins_exponent : List ℕ → Bool
begins_exponent [] = false
begins_exponent (b ∷ bs) = ((b == 101) || (b == 69)) && begins_size bs

-- a number outside the limits is left out, and what is no decimal literal is none in Python either
abbrev pub judged : ℕ → Result Number NumFault → Result Piece FormulaKind
judged n (Ok v) = token class.Number n
judged n (Err TooWide) = Err kind.Unsupported
judged n (Err ZeroDivisor) = Err kind.Syntax
judged n (Err NotANumber) = Err kind.Syntax
judged n (Err Memory) = Err kind.Memory

abbrev pub number : ℕ → List ℕ → Result Piece FormulaKind
number n text = if begins_exponent (drop n text) then Err kind.Unsupported else judged n (number_of_literal (take n text))

-- Words and texts in quotes

abbrev pub closed : ℕ → List ℕ → Option ℕ → Result Piece FormulaKind
closed n text None = Err kind.Syntax
closed n text (Some m) = Ok (piece (form.Token class.Quoted) (n + m) (line_feeds (take (n + m) text)))

-- a text in quotes behind a prefix of this length
abbrev pub string : ℕ → List ℕ → Result Piece FormulaKind
string n text = closed n text (string_len (drop n text))

abbrev pub word : ℕ → List ℕ → Result Piece FormulaKind
word n text =
    if not (begins_quote (drop n text)) then token class.Word n
    else (if is_prefix (take n text) then string n text
    else (if is_format (take n text) then Err kind.Unsupported else token class.Word n))

-- Marks and what is left

abbrev pub mark : Mark → ℕ → Result Piece FormulaKind
mark m n = token (class.Mark m) n

abbrev pub low : ℕ → ℕ
low b = b % 64

-- the character in front, past ASCII, by its two, three or four bytes
abbrev pub character : List ℕ → ℕ
character (a ∷ b ∷ c ∷ d ∷ rest) =
    if nat_lt a 224 then a % 32 * 64 + low b
    else (if nat_lt a 240 then (a % 16 * 64 + low b) * 64 + low c else ((a % 8 * 64 + low b) * 64 + low c) * 64 + low d)
character (a ∷ b ∷ c ∷ []) = if nat_lt a 224 then a % 32 * 64 + low b else (if nat_lt a 240 then (a % 16 * 64 + low b) * 64 + low c else 0)
character (a ∷ b ∷ []) = if nat_lt a 224 then a % 32 * 64 + low b else 0
character (a ∷ []) = 0
character [] = 0

abbrev pub is_scalar : ℕ → Bool
is_scalar n = nat_lt n 0xd800 || (nat_lt 0xdfff n && nat_lt n 0x110000)

-- a letter that could begin a name
abbrev pub is_letter : ℕ → Bool
is_letter n = is_scalar n && is_xid_start n

-- `%`, the backslash and letters past ASCII begin what is left out
abbrev pub unread : List ℕ → FormulaKind
unread [] = kind.Syntax
unread (b ∷ bs) =
    if (b == 37) || (b == 92) then kind.Unsupported
    else (if not (nat_lt b 128) && is_letter (character (b ∷ bs)) then kind.Unsupported else kind.Syntax)

abbrev pub one_mark : List ℕ → Option Mark → Result Piece FormulaKind
one_mark text (Some m) = mark m 1
one_mark text None = Err (unread text)

abbrev pub two_marks : List ℕ → ℕ → Option Mark → Result Piece FormulaKind
two_marks text b (Some m) = mark m 2
two_marks text b None = one_mark text (single b)

-- the longer mark in front
abbrev pub marked : List ℕ → Result Piece FormulaKind
marked [] = Err kind.Syntax
marked (b ∷ []) = one_mark (b ∷ []) (single b)
marked (b ∷ c ∷ bs) = two_marks (b ∷ c ∷ bs) b (pair b c)

-- Blanks, comments and line ends

abbrev pub blanks : ℕ → List ℕ → Result Piece FormulaKind
blanks n text = Ok (piece (if prefix_len is_space text == n then form.Spaces else form.Tabs) n 0)

abbrev pub line_end : ℕ → Result Piece FormulaKind
line_end n = Ok (piece form.LineEnd n 1)

abbrev pub other : List ℕ → Result Piece FormulaKind
other [] = Err kind.Syntax
other (b ∷ bs) =
    if is_blank b then blanks (prefix_len is_blank (b ∷ bs)) (b ∷ bs)
    else (if b == 35 then Ok (piece form.Comment (prefix_len in_comment (b ∷ bs)) 0)
    else (if b == 10 then line_end 1
    else (if b == 13 then (if begins 10 bs then line_end 2 else Err kind.Syntax)
    else (if is_quote b then string 0 (b ∷ bs) else marked (b ∷ bs)))))

abbrev pub front : List ℕ → Result Piece FormulaKind
front text =
    if begins_number text then number (number_len text) text
    else (if nat_lt 0 (prefix_len is_word_byte text) then word (prefix_len is_word_byte text) text else other text)
