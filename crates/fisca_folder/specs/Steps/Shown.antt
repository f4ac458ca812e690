-- The steps of code behind `Shown`:
-- How paths and keys are shown in a line on standard error.
use Rattle.std.specs.Prelude.{ℕ, ◌==◌, ◌&&◌, ◌||◌, nat_le, nat_lt, Bool}

abbrev pub is_within : ℕ → ℕ → ℕ → Bool
is_within low high number = nat_le low number && nat_lt number high

-- The marks of Unicode that end a line or turn the direction of the text: U+061C, U+200E and U+200F, U+2028 and U+2029 (the ends of lines and
-- of paragraphs), U+202A to U+202E, and U+2066 to U+2069.
abbrev pub is_mark : ℕ → Bool
is_mark c = (c == 1564) || (is_within 8206 8208 c || (is_within 8232 8239 c || is_within 8294 8298 c))
