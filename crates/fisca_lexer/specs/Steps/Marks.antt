-- Marks of one and of two bytes.
use Rattle.std.specs.Prelude.{ℕ, Bool, ◌==◌, ◌||◌, if◌then◌else◌, Option, Some, None}
use Rattle.fisca_lexer.specs.declared.token.Mark.{Mark}
use Rattle.fisca_lexer.specs.declared.token.Mark.TheVariants as mark

-- the operators that may stand before `=`: `+ - * / | &`
abbrev pub is_operator : ℕ → Bool
is_operator b = (b == 43) || ((b == 45) || ((b == 42) || ((b == 47) || ((b == 124) || (b == 38)))))

-- a byte and `=`
abbrev pub with_equal : ℕ → Option Mark
with_equal b =
    if b == 61 then Some mark.EqualEqual
    else (if b == 33 then Some mark.NotEqual
    else (if b == 60 then Some mark.LessEqual
    else (if b == 62 then Some mark.GreaterEqual
    else (if is_operator b then Some mark.Augmented else None))))

-- a byte twice
abbrev pub doubled : ℕ → Option Mark
doubled b = if b == 42 then Some mark.Power else (if b == 47 then Some mark.WholeDivision else None)

abbrev pub pair : ℕ → ℕ → Option Mark
pair b c = if c == 61 then with_equal b else (if b == c then doubled b else None)

abbrev pub bracket : ℕ → Option Mark
bracket b =
    if b == 40 then Some mark.Open
    else (if b == 41 then Some mark.Close
    else (if b == 91 then Some mark.OpenList
    else (if b == 93 then Some mark.CloseList
    else (if b == 123 then Some mark.OpenMap
    else (if b == 125 then Some mark.CloseMap else None)))))

abbrev pub operator : ℕ → Option Mark
operator b =
    if b == 43 then Some mark.Plus
    else (if b == 45 then Some mark.Minus
    else (if b == 42 then Some mark.Star
    else (if b == 47 then Some mark.Slash
    else (if b == 124 then Some mark.Bar
    else (if b == 38 then Some mark.Ampersand
    else (if b == 126 then Some mark.Tilde
    else (if b == 60 then Some mark.Less
    else (if b == 62 then Some mark.Greater else None))))))))

abbrev pub punctuation : ℕ → Option Mark
punctuation b =
    if b == 44 then Some mark.Comma
    else (if b == 58 then Some mark.Colon
    else (if b == 46 then Some mark.Dot
    else (if b == 61 then Some mark.Equal else None)))

abbrev pub or_else : Option Mark → Option Mark → Option Mark
or_else (Some m) o = Some m
or_else None o = o

abbrev pub single : ℕ → Option Mark
single b = or_else (bracket b) (or_else (operator b) (punctuation b))
