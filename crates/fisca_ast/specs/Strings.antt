-- Texts in quotes.
use Rattle.std.specs.Prelude.{ℕ, List, [], ◌∷◌, Bool, false, not, ◌==◌, ◌||◌, ◌&&◌}

abbrev pub is_quote : ℕ → Bool
is_quote b = (b == 34) || (b == 39)

abbrev pub begins_quote : List ℕ → Bool
begins_quote [] = false
begins_quote (b ∷ bs) = is_quote b

-- `u` or `r` before a text in quotes changes nothing
abbrev pub is_prefix : List ℕ → Bool
is_prefix (b ∷ []) = (b == 117) || ((b == 85) || ((b == 114) || (b == 82)))
is_prefix bs = false

abbrev pub is_f : ℕ → Bool
is_f b = (b == 102) || (b == 70)

abbrev pub is_r : ℕ → Bool
is_r b = (b == 114) || (b == 82)

-- `f`, `fr` or `rf` before a text in quotes is left out
abbrev pub is_format : List ℕ → Bool
is_format (b ∷ []) = is_f b
is_format (b ∷ c ∷ []) = (is_f b && is_r c) || (is_r b && is_f c)
is_format bs = false

abbrev pub in_comment : ℕ → Bool
in_comment b = not (b == 10)
