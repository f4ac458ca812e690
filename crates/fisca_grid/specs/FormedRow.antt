-- The lines of a grid's axes in a form.
use Rattle.std.specs.Prelude.{ℕ, List, ◌∷◌, map, Option, Some, None, if◌then◌else◌}
use Rattle.std.specs.Fmt.{decimal}
use Rattle.std.specs.declared.convert.Infallible.{Infallible}
use Rattle.fisca_forms.specs.Forms.{Cell, Places, bare}
use Rattle.fisca_forms.specs.LineForms.{Form, line_in, number_cell}
use Rattle.fisca_num.specs.Number.{Number}
use Rattle.fisca_grid.specs.AxesRow.{values_of}
use Rattle.fisca_grid.specs.Grid.{axes_at}
use Rattle.fisca_grid.specs.Steps.AxesRow.{is_kept}
use Rattle.fisca_grid.specs.declared.axes.AxisSpec.{AxisSpec}
use Rattle.fisca_grid.specs.declared.condition.Filter.{Filter}
use Rattle.fisca_writer.specs.Row.{Row, Nothing, Line}

abbrev pub number_cells : Option Places → List Number → List Cell
number_cells decimals = map (number_cell decimals)

-- the line of a position: the cells of its number and of the value of each axis
abbrev pub formed_line : Form → ℕ → List Number → List ℕ
formed_line form position values = line_in form (bare (decimal position) ∷ number_cells form.decimals values)

-- the line of values that meet the condition, and nothing for others
abbrev pub formed_row_of : Form → Option Filter → ℕ → Option (List Number) → Row Infallible
formed_row_of form keep position None = Nothing
formed_row_of form keep position (Some values) = if is_kept keep values then Line (formed_line form position values) else Nothing

-- what stands at a position of a grid in this form, whose values are always numbers, as `each_step_is_a_number` says
abbrev pub formed_row : Form → List (List AxisSpec) → Option Filter → ℕ → Row Infallible
formed_row form groups keep position = formed_row_of form keep position (values_of (axes_at groups position))
