-- The steps of code behind `Condition`:
-- How a condition on an axis is read, and when a value meets it.
use Rattle.std.specs.Prelude.{ℕ, List, [], ◌∷◌, length, drop, Option, Some, None, if◌then◌else◌, ◌==◌, nat_eq}
use Rattle.std.specs.List.{starts_with}

-- the text without this beginning, where it begins so
abbrev pub after : List ℕ → List ℕ → Option (List ℕ)
after beginning text = if starts_with nat_eq text beginning then Some (drop (length beginning) text) else None

-- the text without its leading spaces
abbrev pub past_spaces : List ℕ → List ℕ
past_spaces [] = []
past_spaces (b ∷ bs) = if b == 32 then past_spaces bs else b ∷ bs
