-- The steps of code behind `Words`:
-- How the words of a command line are read.
use Rattle.std.specs.Prelude.{ℕ, Bool, false, List, [], ◌∷◌, length, drop, Option, Some, None, option_map, if◌then◌else◌, ◌==◌, ◌||◌, ◌&&◌, not, nat_eq}
use Rattle.std.specs.Char.{is_ascii_alphanumeric, is_ascii_digit}
use Rattle.std.specs.List.{starts_with, list_all}
use Rattle.std.specs.Option.{option_or}

-- a letter, a digit or `_`
abbrev pub is_word_byte : ℕ → Bool
is_word_byte b = is_ascii_alphanumeric b || (b == 95)

-- an ASCII identifier: letters, digits and `_`, of which the first is no digit
abbrev pub is_identifier : List ℕ → Bool
is_identifier [] = false
is_identifier (b ∷ bs) = not (is_ascii_digit b) && list_all is_word_byte (b ∷ bs)

-- the parts with one more byte at the front
abbrev pub with_front : ℕ → List ℕ × List ℕ → List ℕ × List ℕ
with_front b parts = (b ∷ parts.0, parts.1)

-- what stands before and behind the first place of the mark, where it stands in the text
abbrev pub around_first : List ℕ → List ℕ → Option (List ℕ × List ℕ)
around_first mark [] = None
around_first mark (b ∷ bs) = if starts_with nat_eq (b ∷ bs) mark then Some ([], drop (length mark) (b ∷ bs)) else option_map (with_front b) (around_first mark bs)

-- what stands before and behind the last place of the mark, where it stands in the text
abbrev pub around_last : List ℕ → List ℕ → Option (List ℕ × List ℕ)
around_last mark [] = None
around_last mark (b ∷ bs) = option_or (option_map (with_front b) (around_last mark bs)) (if starts_with nat_eq (b ∷ bs) mark then Some ([], drop (length mark) (b ∷ bs)) else None)
