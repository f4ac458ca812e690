-- The lines of a text that have content, and how deep each stands.
use Rattle.std.specs.Prelude.{ℕ, max, List, [], ◌∷◌, Option, Some, None}

-- the number of a line, its leading spaces, and what follows them
pub record Row : Type 0 where
  pub number : ℕ
  pub indent : ℕ
  pub content : List ℕ

abbrev pub with_row : Option Row → List Row → List Row
with_row None rs = rs
with_row (Some r) rs = r ∷ rs

-- the greatest number of these rows
abbrev pub last_number : List Row → ℕ
last_number [] = 0
last_number (r ∷ rs) = max r.number (last_number rs)
