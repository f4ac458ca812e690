use Rattle.std.proofs.Common.{◌≡◌, ◌++◌, string_bytes, drop}
use Rattle.fisca_forms.specs.LineForms.{names_from, names_line}
use Rattle.fisca_forms.proofs.form.LineForm.write_header.Given as goal

-- the names that are left follow those that are written
abbrev pub invariant-loop-place : goal.invariant-loop-place
invariant-loop-place l =
    string_bytes l.line ++ names_from l.fn.self.format l.place (drop l.place l.fn.self.names) ≡ string_bytes l.fn.line ++ names_line l.fn.self.format l.fn.self.names
