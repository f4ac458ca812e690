-- Texts made of pieces: between separators, and of decimal digits.
use Rattle.std.specs.Prelude.{ℕ, Bool, ◌&&◌, ◌==◌, List, length}
use Rattle.std.specs.List.{slice_split}
use Rattle.std.specs.Str.{all_ascii_digits}

abbrev pub dash : ℕ
dash = 45

abbrev pub colon : ℕ
colon = 58

-- the pieces of a text before, between and after its separators
abbrev pub pieces : ℕ → List ℕ → List (List ℕ)
pieces separator text = slice_split (λ c. c == separator) text

-- the text is that many decimal digits
abbrev pub is_numeral : ℕ → List ℕ → Bool
is_numeral count text = (length text == count) && all_ascii_digits text
