use Rattle.std.proofs.Common.{◌≡◌, ◌++◌, List, Some, take, string_bytes}
use Rattle.fisca_forms.specs.LineForms.{cells_from}
use Rattle.fisca_num.specs.Number.{Number}
use Rattle.fisca_grid.specs.AxesRow.{values_of}
use Rattle.fisca_grid.specs.FormedRow.{number_cells}
use Rattle.fisca_grid.specs.Grid.{axes_at}
use Rattle.fisca_grid.proofs.formed_rows.write_values.Given as goal

-- the cells of the axes so far are appended
abbrev pub invariant-loop-axis : goal.invariant-loop-axis
invariant-loop-axis l =
    (values : List Number) × (values_of (take l.axis (axes_at l.axes l.position)) ≡ Some values)
    × (string_bytes l.line ≡ string_bytes l.fn.line ++ cells_from l.form.format l.form.names 1 (number_cells l.form.decimals values))
