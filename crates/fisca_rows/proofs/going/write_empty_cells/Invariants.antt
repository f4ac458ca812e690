use Rattle.std.proofs.Common.{◌≡◌, ◌-◌, ◌++◌, string_bytes}
use Rattle.fisca_forms.specs.LineForms.{cells_from}
use Rattle.fisca_rows.specs.Going.{empty_cells}
use Rattle.fisca_rows.proofs.going.write_empty_cells.Given as goal

-- those that are left come behind those so far
abbrev pub invariant-loop-place : goal.invariant-loop-place
invariant-loop-place l =
    string_bytes l.fn.line ++ cells_from l.form.format l.form.names l.from (empty_cells (l.to - l.from))
    ≡ string_bytes l.line ++ cells_from l.form.format l.form.names l.place (empty_cells (l.to - l.place))
