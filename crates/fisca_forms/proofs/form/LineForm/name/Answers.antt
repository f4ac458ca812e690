use Rattle.std.proofs.Common.{Some, map, string_bytes, sym, ap, ◌∙◌}
use Rattle.std.proofs.lemmas.Option.{slice_get-get_or, slice_get_past}
use Rattle.fisca_forms.specs.LineForms.{Form, name_at}
use Rattle.fisca_forms.proofs.Names.{name_there, no_name}
use Rattle.fisca_forms.proofs.form.LineForm.name.Goals as goal

pub returns-in-Some : goal.returns-in-Some
returns-in-Some c =
    let name = c.in-Some.name.now in
    let look = c.in-Some.ensures.lookup in
    let there = slice_get-get_or c.as_slice.result.now c.args.place name look.3.0 ∙ ap Some (sym look.1) in
    c.as_str.ensures.value
    ∙ (sym (name_there string_bytes c.as_slice.result.now c.args.place name there)
    ∙ (ap (λ xs. name_at (map string_bytes xs) c.args.place) c.as_slice.ensures.value ∙ ap (λ (f : Form). name_at f.names c.args.place) c.self.view_is))

pub returns-in-None : goal.returns-in-None
returns-in-None c =
    let none = slice_get_past c.as_slice.result.now c.args.place c.in-None.ensures.lookup.3 in
    sym (no_name string_bytes c.as_slice.result.now c.args.place none)
    ∙ (ap (λ xs. name_at (map string_bytes xs) c.args.place) c.as_slice.ensures.value ∙ ap (λ (f : Form). name_at f.names c.args.place) c.self.view_is)
