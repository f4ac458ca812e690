use Rattle.std.proofs.Common.{◌++◌, length, string_bytes, ap, ◌∙◌, arith}
use Rattle.std.proofs.lemmas.List.{length-map}
use Rattle.fisca_forms.specs.LineForms.{Form}
use Rattle.fisca_forms.proofs.Names.{next_name}
use Rattle.fisca_forms.proofs.form.LineForm.write_header.Goals as goal

pub loop-place-preserved : goal.loop-place-preserved
loop-place-preserved c =
    let names = length-map c.self.inside.names.items string_bytes in
    let count = ap (λ (f : Form). length f.names) c.self.view_is in
    let first = c.in_ok-push_str.ensures.bytes ∙ ap (λ b. string_bytes c.loop-place.line ++ b) c.before-in-loop-place.ensures in
    next_name c.args.self.now.format c.args.self.now.names c.loop-place.place _ _ _ _ (omega (arith, names, count)) first c.in_ok-write_name.ensures c.loop-place.invariant
