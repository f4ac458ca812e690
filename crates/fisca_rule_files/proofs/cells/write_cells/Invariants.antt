use Rattle.std.proofs.Common.{◌≡◌, ◌++◌, drop, map, string_bytes}
use Rattle.fisca_forms.specs.Forms.{quoted}
use Rattle.fisca_forms.specs.LineForms.{cells_from}
use Rattle.fisca_rule_files.proofs.cells.write_cells.Given as goal

-- the cells that are left come behind those so far
abbrev pub invariant-loop-place : goal.invariant-loop-place
invariant-loop-place l =
    string_bytes l.line ++ cells_from l.form.format l.form.names l.place (map quoted (map (λ t. string_bytes t) (drop l.place l.texts)))
    ≡ string_bytes l.fn.line ++ cells_from l.form.format l.form.names 0 (map quoted (map (λ t. string_bytes t) l.texts))
