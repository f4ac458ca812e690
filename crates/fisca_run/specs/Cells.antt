-- The names of cells.
use Rattle.std.specs.Prelude.{ℕ, List, ◌∷◌, Option, Some, None}

-- these behind a first one, if it is given
abbrev pub named_first : Option (List ℕ) → List (List ℕ) → List (List ℕ)
named_first None names = names
named_first (Some first) names = first ∷ names
