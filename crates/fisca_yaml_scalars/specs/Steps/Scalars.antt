-- The steps of code behind `Scalars`:
-- Plain and quoted scalars, and the keys of entries.
use Rattle.std.specs.Prelude.{ℕ, List, [], ◌∷◌, Bool, true, false, not, ◌==◌, ◌||◌, ◌&&◌, if◌then◌else◌, Option, Some, None, codes}
use Rattle.fisca_yaml_scalars.specs.Characters.{tab, line_feed, carriage_return, double_quote, hash, single_quote, dash, slash, colon, question_mark, backslash, comma, close_bracket, close_brace}
use Rattle.std.specs.List.{list_any}
use Rattle.std.specs.Str.{bytes_eq}
use Rattle.fisca_yaml_scalars.specs.Steps.Rows.{is_blank, ends_mark, begins}

-- what the character behind a backslash stands for
abbrev pub short_escape : ℕ → Option ℕ
short_escape b =
    if (b == backslash) || ((b == double_quote) || (b == slash)) then Some b
    else (if b == 110 then Some line_feed else (if b == 114 then Some carriage_return else (if b == 116 then Some tab else (if b == 48 then Some 0 else None))))

abbrev pub is_quote : List ℕ → Bool
is_quote bs = begins double_quote bs || begins single_quote bs

-- what follows the blanks, and nothing where a comment does; the flag says that a blank came just before
abbrev pub past_blanks : Bool → List ℕ → List ℕ
past_blanks after [] = []
past_blanks after (b ∷ bs) = if is_blank b then past_blanks true bs else (if (b == hash) && after then [] else b ∷ bs)

abbrev pub is_nil : List ℕ → Bool
is_nil [] = true
is_nil (b ∷ bs) = false

-- nothing but blanks and a comment
abbrev pub ends_line : List ℕ → Bool
ends_line bs = is_nil (past_blanks false bs)

abbrev pub in_front : ℕ → List ℕ → List ℕ
in_front b [] = if is_blank b then [] else b ∷ []
in_front b (c ∷ cs) = b ∷ c ∷ cs

abbrev pub trim_end : List ℕ → List ℕ
trim_end [] = []
trim_end (b ∷ bs) = in_front b (trim_end bs)

-- the characters that begin something else than a plain scalar, or that this subset refuses
abbrev pub is_reserved : ℕ → Bool
is_reserved b = list_any (λ c. c == b) (codes "&*!%@`,]}\"'[{")

-- what a plain scalar may begin with
abbrev pub may_begin : List ℕ → Bool
may_begin [] = false
may_begin (b ∷ bs) = not (is_blank b || (is_reserved b || (((b == question_mark) || ((b == colon) || (b == dash))) && ends_mark bs)))

abbrev pub is_null_word : List ℕ → Bool
is_null_word t = bytes_eq t (codes "~") || (bytes_eq t (codes "null") || (bytes_eq t (codes "Null") || bytes_eq t (codes "NULL")))

abbrev pub is_key : List ℕ → Bool
is_key k = not (is_nil k || bytes_eq k (codes "<<"))

abbrev pub ends_value : ℕ → Bool
ends_value b = (b == comma) || ((b == close_bracket) || (b == close_brace))

abbrev pub ends_key : List ℕ → Bool
ends_key [] = true
ends_key (b ∷ bs) = is_blank b || ends_value b

-- whether a plain scalar stops before b, with bs after it; the flag says that a blank came just before
abbrev pub stops : Bool → ℕ → List ℕ → Bool
stops after b bs = ends_value b || (((b == colon) && ends_key bs) || ((b == hash) && after))
