use Rattle.std.proofs.Common.{◌≡◌, ◌+◌, ◌++◌, drop, map, string_bytes}
use Rattle.fisca_symbols.specs.Known.{tables as known}
use Rattle.fisca_columns.specs.Formed.{value_cell}
use Rattle.fisca_rows.specs.FormedLines.{front_cells}
use Rattle.fisca_forms.specs.LineForms.{cells_from}
use Rattle.fisca_inputs.specs.declared.given.Given.{Given}
use Rattle.fisca_rows.proofs.formed_lines.write_front_cells.Given as goal

-- the cells that are left come behind those so far
abbrev pub invariant-loop-place : goal.invariant-loop-place
invariant-loop-place l =
    let form = l.form in
    string_bytes l.line ++ cells_from form.format form.names (l.place + 1) (map (λ (g : Given). value_cell (known l.tables) form.decimals g.variable g.value) (drop l.place l.moved))
    ≡ string_bytes l.fn.line ++ cells_from form.format form.names 0 (front_cells (known l.tables) form.decimals l.position l.moved)
