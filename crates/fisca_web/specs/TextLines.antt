-- The lines of a text.
use Rattle.std.specs.Prelude.{ℕ, ◌==◌, cond, List, [], ◌∷◌}

-- lines whose first begins with a byte more
abbrev pub begun_by : ℕ → List (List ℕ) → List (List ℕ)
begun_by byte [] = (byte ∷ []) ∷ []
begun_by byte (line ∷ lines) = (byte ∷ line) ∷ lines

-- the lines of a text, each up to its line feed, or the last up to the end of the text where bytes stand behind the last line feed
abbrev pub lines_of : List ℕ → List (List ℕ)
lines_of [] = []
lines_of (byte ∷ text) = cond (byte == 10) ([] ∷ lines_of text) (begun_by byte (lines_of text))
