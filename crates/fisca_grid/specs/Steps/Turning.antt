-- The steps of code behind `Turning`:
-- How a grid is kept: a flat list of axes, each with the number of positions for which it stays at a place.
use Rattle.std.specs.Prelude.{ℕ, ◌%◌}
use Rattle.fisca_grid.specs.declared.axes.Axis.{Axis}
use Rattle.fisca_grid.specs.declared.axes.AxisSpec.{AxisSpec}

-- an axis, and its place after so many turns
abbrev pub turned : ℕ → Axis → AxisSpec × ℕ
turned turns axis = (axis.spec, turns % axis.spec.count)
