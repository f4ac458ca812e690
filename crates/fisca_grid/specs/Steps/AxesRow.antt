-- The steps of code behind `AxesRow`:
-- The lines of a grid's axes, and the condition on one of them.
use Rattle.std.specs.Prelude.{Bool, true, false, List, Option, Some, None, slice_get}
use Rattle.std.specs.Option.{option_map_or}
use Rattle.fisca_num.specs.Number.{Number}
use Rattle.fisca_grid.specs.Condition.{meets}
use Rattle.fisca_grid.specs.declared.condition.Filter.{Filter}

-- the value of the axis that a condition speaks of meets it, if there is a condition
abbrev pub is_kept : Option Filter → List Number → Bool
is_kept None values = true
is_kept (Some filter) values = option_map_or (meets filter.condition) (slice_get values filter.axis) false
