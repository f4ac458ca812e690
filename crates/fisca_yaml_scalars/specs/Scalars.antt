-- Plain and quoted scalars, and the keys of entries.
use Rattle.std.specs.Prelude.{ℕ, zero, suc, ◌+◌, ◌*◌, List, [], ◌∷◌, ◌++◌, Bool, true, false, ◌==◌, ◌&&◌, if◌then◌else◌, nat_le, nat_lt, Option, Some, None, encode_utf8}
use Rattle.fisca_yaml_scalars.specs.Characters.{double_quote, hash, single_quote, colon, backslash}
use Rattle.std.specs.Char.{digit_value, is_digit}
use Rattle.fisca_yaml_scalars.specs.Steps.Rows.{is_blank, ends_mark, begins, tail}
use Rattle.fisca_yaml_scalars.specs.Steps.Scalars.{short_escape, is_quote, past_blanks, trim_end, may_begin, stops}

-- a text that is read, and what follows it
abbrev pub Read : Type 0
Read = Option (List ℕ × List ℕ)

abbrev pub prepend : List ℕ → Read → Read
prepend bytes None = None
prepend bytes (Some p) = Some (bytes ++ p.0, p.1)

-- the rest of a text in single quotes; the flag says that a quote came just before
abbrev pub single : Bool → List ℕ → Read
single pending [] = if pending then Some ([], []) else None
single pending (b ∷ bs) =
    if pending then (if b == single_quote then prepend (single_quote ∷ []) (single false bs) else Some ([], b ∷ bs))
    else (if b == single_quote then single true bs else prepend (b ∷ []) (single false bs))

-- the first single quote of a text has another behind it
abbrev pub is_doubled : List ℕ → Bool
is_doubled [] = false
is_doubled (b ∷ bs) = if b == single_quote then begins single_quote bs else is_doubled bs

-- where a text in double quotes is: between escapes, behind a backslash, or in an escape by number, with so many hex digits to come after the next one
pub data Escape : Type 0 where
  none : Escape
  begun : Escape
  digits : ℕ → ℕ → Escape

abbrev pub is_surrogate : ℕ → Bool
is_surrogate u = nat_le 0xd800 u && nat_lt u 0xe000

abbrev pub after_escape : Option ℕ → Read → Read
after_escape None r = None
after_escape (Some b) r = prepend (b ∷ []) r

-- the character of this number, in front of what follows
abbrev pub after_number : ℕ → Read → Read
after_number u r = if is_surrogate u then None else prepend (encode_utf8 u) r

-- the rest of a text in double quotes
abbrev pub double : Escape → List ℕ → Read
double none [] = None
double none (b ∷ bs) = if b == double_quote then Some ([], bs) else (if b == backslash then double begun bs else prepend (b ∷ []) (double none bs))
double begun [] = None
double begun (b ∷ bs) =
    if b == 120 then double (digits 1 0) bs else (if b == 117 then double (digits 3 0) bs else after_escape (short_escape b) (double none bs))
double (digits n u) [] = None
double (digits zero u) (b ∷ bs) = if is_digit b 16 then after_number (u * 16 + digit_value b) (double none bs) else None
double (digits (suc n) u) (b ∷ bs) = if is_digit b 16 then double (digits n (u * 16 + digit_value b)) bs else None

-- the quoted text in front, where a quote is
abbrev pub quoted : List ℕ → Read
quoted bs = if begins double_quote bs then double none (tail bs) else (if begins single_quote bs then single false (tail bs) else None)

-- the line up to a comment
abbrev pub before_comment : Bool → List ℕ → List ℕ
before_comment after [] = []
before_comment after (b ∷ bs) = if (b == hash) && after then [] else b ∷ before_comment (is_blank b) bs

-- the text before the first colon that a blank or the end follows, where no comment comes before it
abbrev pub key_split : Bool → List ℕ → Read
key_split after [] = None
key_split after (b ∷ bs) =
    if (b == hash) && after then None else (if (b == colon) && ends_mark bs then Some ([], bs) else prepend (b ∷ []) (key_split (is_blank b) bs))

abbrev pub trimmed : Read → Read
trimmed None = None
trimmed (Some p) = Some (trim_end p.0, p.1)

abbrev pub colon_next : List ℕ → List ℕ → Read
colon_next k [] = None
colon_next k (b ∷ bs) = if (b == colon) && ends_mark bs then Some (k, bs) else None

abbrev pub after_quoted : Read → Read
after_quoted None = None
after_quoted (Some p) = colon_next p.0 (past_blanks false p.1)

-- where an entry begins: its key, and what follows the colon
abbrev pub entry_of : List ℕ → Read
entry_of bs = if is_quote bs then after_quoted (quoted bs) else (if may_begin bs then trimmed (key_split false bs) else None)

abbrev pub word : Bool → List ℕ → List ℕ
word after [] = []
word after (b ∷ bs) = if stops after b bs then [] else b ∷ word (is_blank b) bs

-- what is left; a comment there closes nothing
abbrev pub past_word : Bool → List ℕ → List ℕ
past_word after [] = []
past_word after (b ∷ bs) = if stops after b bs then b ∷ bs else past_word (is_blank b) bs
