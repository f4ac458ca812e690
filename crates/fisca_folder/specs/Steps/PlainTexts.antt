-- The steps of code behind `Shown`: texts that are shown as they are.
use Rattle.std.specs.Prelude.{ℕ, ◌&&◌, Bool, true, List, [], ◌∷◌}
use Rattle.fisca_folder.specs.Steps.Shown.{is_within}

-- A printable character of ASCII, from the space to the tilde.
abbrev pub is_printable : ℕ → Bool
is_printable c = is_within 32 127 c

-- A text of such characters alone.
abbrev pub is_plain : List ℕ → Bool
is_plain [] = true
is_plain (c ∷ cs) = is_printable c && is_plain cs
