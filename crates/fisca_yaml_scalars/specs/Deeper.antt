-- The lines that are deeper than a place, and those behind them.
use Rattle.std.specs.Prelude.{ℕ, List, [], ◌∷◌, nat_lt, if◌then◌else◌}
use Rattle.fisca_yaml_scalars.specs.Rows.{Row}
use Rattle.fisca_yaml_scalars.specs.Steps.Rows.{rank}

-- the first lines, as long as they are deeper
abbrev pub front : ℕ → List Row → List Row
front r [] = []
front r (l ∷ ls) = if nat_lt r (rank l) then l ∷ front r ls else []

-- the lines from the first one that isn't deeper
abbrev pub after : ℕ → List Row → List Row
after r [] = []
after r (l ∷ ls) = if nat_lt r (rank l) then after r ls else l ∷ ls
