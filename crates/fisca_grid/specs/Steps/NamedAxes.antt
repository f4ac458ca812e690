-- The steps of code behind `NamedAxes`:
-- The axes that words describe, and their names.
use Rattle.std.specs.Prelude.{ℕ, ◌||◌, Bool, false, List, [], ◌∷◌, map}
use Rattle.std.specs.List.{list_any}
use Rattle.std.specs.Option.{option_map_or}
use Rattle.std.specs.Str.{bytes_eq}
use Rattle.fisca_grid.specs.Words.{axis_of}
use Rattle.fisca_grid.specs.declared.axes.AxisSpec.{AxisSpec}

-- the name of the axis that a word describes
abbrev pub name_of : List ℕ → List ℕ
name_of word = option_map_or (λ named. named.0) (axis_of word) []

-- each axis is a group of its own
abbrev pub own_groups : List AxisSpec → List ℕ
own_groups = map (λ axis. 1)

-- two of the names are the same
abbrev pub has_twins : List (List ℕ) → Bool
has_twins [] = false
has_twins (name ∷ names) = list_any (λ other. bytes_eq other name) names || has_twins names
