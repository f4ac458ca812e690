-- The axes that words describe, and their names.
use Rattle.std.specs.Prelude.{ℕ, ◌+◌, List, [], ◌∷◌, Option, Some, None, option_map, option_and_then}
use Rattle.std.specs.Option.{option_or}
use Rattle.fisca_grid.specs.Condition.{condition_of}
use Rattle.fisca_grid.specs.Words.{axis_of}
use Rattle.fisca_grid.specs.declared.axes.AxisSpec.{AxisSpec}
use Rattle.fisca_grid.specs.declared.condition.AxisCondition.{AxisCondition}
use Rattle.fisca_grid.specs.declared.condition.Filter.{Filter}

-- the axes that the words describe, as each has to
abbrev pub specs_of : List (List ℕ) → Option (List AxisSpec)
specs_of [] = Some []
specs_of (word ∷ words) = option_and_then (λ named. option_map (λ specs. named.1 ∷ specs) (specs_of words)) (axis_of word)

-- a condition on the axis at an index
abbrev pub filter_on : ℕ → AxisCondition → Filter
filter_on axis condition = record { axis = axis; condition = condition }

-- the condition that a text states of one of the axes of these names, the first of which stands at `axis`
abbrev pub filter_from : ℕ → List (List ℕ) → List ℕ → Option Filter
filter_from axis [] text = None
filter_from axis (name ∷ names) text = option_or (option_map (filter_on axis) (condition_of name text)) (filter_from (axis + 1) names text)
