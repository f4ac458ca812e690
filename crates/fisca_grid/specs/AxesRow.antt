-- The lines of a grid's axes, and the condition on one of them.
use Rattle.std.specs.Prelude.{◌≡◌, ◌<◌, IfOk, Bool, true, ℕ, List, [], ◌∷◌, ◌++◌, Option, Some, None, option_map, slice_get, drop, Result, Ok, Err, if◌then◌else◌}
use Rattle.std.specs.Fmt.{decimal}
use Rattle.std.specs.Option.{ForSome}
use Rattle.std.specs.declared.convert.Infallible.{Infallible}
use Rattle.fisca_num.specs.declared.faults.NumFault.{NumFault}
use Rattle.fisca_num.specs.Number.{Number}
use Rattle.fisca_num.specs.Text.{text_of}
use Rattle.fisca_grid.specs.Axes.{step_of}
use Rattle.fisca_grid.specs.Grid.{axes_in, axes_at, leading_in}
use Rattle.fisca_grid.specs.Condition.{meets}
use Rattle.fisca_writer.specs.Row.{Row, Nothing, Line}
use Rattle.fisca_grid.specs.declared.axes.AxisSpec.{AxisSpec}
use Rattle.fisca_grid.specs.declared.condition.Filter.{Filter}
use Rattle.fisca_grid.specs.Steps.AxesRow.{is_kept}

abbrev pub tab : ℕ
tab = 9

abbrev pub line_feed : ℕ
line_feed = 10

-- a tab and a text for each value
abbrev pub cells : List Number → List ℕ
cells [] = []
cells (value ∷ values) = tab ∷ text_of value ++ cells values

-- the line of a position: its number, a tab and the value for each axis, and a line feed
abbrev pub line_of : ℕ → List Number → List ℕ
line_of position values = decimal position ++ (cells values ++ line_feed ∷ [])

-- a value before others
abbrev pub before_values : Result Number NumFault → Option (List Number) → Option (List Number)
before_values (Ok value) rest = option_map (λ values. value ∷ values) rest
before_values (Err fault) rest = None

-- the values of axes at their places
abbrev pub values_of : List (AxisSpec × ℕ) → Option (List Number)
values_of [] = Some []
values_of (at ∷ rest) = before_values (step_of at.0 at.1) (values_of rest)

-- the line of values that meet the condition, and nothing for others
abbrev pub row_of : Option Filter → ℕ → Option (List Number) → Row Infallible
row_of keep position None = Nothing
row_of keep position (Some values) = if is_kept keep values then Line (line_of position values) else Nothing

-- what stands at a position of a grid. The values there are always numbers, as `each_step_is_a_number` of `fisca_grid` says, so
-- no line is left out for want of one
abbrev pub axes_row : List (List AxisSpec) → Option Filter → ℕ → Row Infallible
axes_row groups keep position = row_of keep position (values_of (axes_at groups position))

-- the end of the line of a position, but for its line feed: the cells of the axes behind the first group
abbrev pub rest_of : List (List AxisSpec) → ℕ → Option (List ℕ)
rest_of groups position = option_map cells (values_of (drop (leading_in groups) (axes_at groups position)))

-- a condition speaks of an axis of the grid, if there is one
abbrev pub IsInside : Option Filter → List (List AxisSpec) → Type 0
IsInside keep groups = ForSome keep (λ filter. filter.axis < axes_in groups)

-- whether the condition is met, where the axes have values
abbrev pub IsMetBy : Option Filter → List (AxisSpec × ℕ) → Bool → Type 0
IsMetBy None axes answer = answer ≡ true
IsMetBy (Some filter) axes answer = ForSome (slice_get axes filter.axis) (λ at. IfOk (step_of at.0 at.1) (λ value. answer ≡ meets filter.condition value))
