use Rattle.std.proofs.Common.{List, Some, slice_get, sym, ◌∙◌, ap}
use Rattle.std.proofs.lemmas.Option.{slice_get-get_or, slice_get_past}
use Rattle.std.specs.Str.{bytes_eq}
use Rattle.fisca_symbols.proofs.First.{first_seen, first_there}
use Rattle.fisca_symbols.specs.declared.variable.Variable.{Variable}
use Rattle.fisca_symbols.specs.KnownVariables.{variable}
use Rattle.fisca_symbols.proofs.variables.Variables.of_name.Goals as goal

pub returns-in-Some-get : goal.returns-in-Some-get
returns-in-Some-get c =
    let place = c.in-Some.place in
    let found = c.in-Some-get.variable.now in
    let look = c.in-Some-get.ensures.lookup in
    let there = slice_get-get_or c.deref.result.now place found look.3.0 ∙ ap Some (sym look.1) in
    let same = sym c.self.view_is ∙ sym c.deref.ensures.value in
    sym (first_seen variable (λ v. bytes_eq v.name c.args.name.now) place found c.args.self.now (sym c.in-Some.ensures)
    (ap (λ (xs : List Variable). slice_get xs place) same ∙ there))

pub returns-in-None-get : goal.returns-in-None-get
returns-in-None-get c =
    let place = c.in-Some.place in
    let there = slice_get_past c.deref.result.now place c.in-None-get.ensures.lookup.3 in
    let same = sym c.self.view_is ∙ sym c.deref.ensures.value in
    sym (first_there variable (λ v. bytes_eq v.name c.args.name.now) place c.args.self.now (sym c.in-Some.ensures)
    (ap (λ (xs : List Variable). slice_get xs place) same ∙ there))
