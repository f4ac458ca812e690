use Rattle.std.proofs.Common.{List, Some, slice_get, sym, ◌∙◌, ap}
use Rattle.std.proofs.lemmas.Option.{slice_get-get_or, slice_get_past}
use Rattle.fisca_check_calls.proofs.Latest.{found_at}
use Rattle.fisca_check_calls.specs.declared.local.Local.{Local}
use Rattle.fisca_check_calls.proofs.table.Table.of_name.Goals as goal

pub returns-in-Some-get : goal.returns-in-Some-get
returns-in-Some-get c =
    let place = c.in-Some.place in
    let found = c.in-Some-get.local.now in
    let look = c.in-Some-get.ensures.lookup in
    let there = slice_get-get_or c.deref.result.now place found look.3.0 ∙ ap Some (sym look.1) in
    let same = sym c.self.view_is ∙ sym c.deref.ensures.value in
    sym there ∙ sym (ap (λ (xs : List Local). slice_get xs place) same) ∙ found_at c.args.name.now c.args.self.now place (sym c.in-Some.ensures)

pub returns-in-None-get : goal.returns-in-None-get
returns-in-None-get c =
    let place = c.in-Some.place in
    let there = slice_get_past c.deref.result.now place c.in-None-get.ensures.lookup.3 in
    let same = sym c.self.view_is ∙ sym c.deref.ensures.value in
    sym there ∙ sym (ap (λ (xs : List Local). slice_get xs place) same) ∙ found_at c.args.name.now c.args.self.now place (sym c.in-Some.ensures)
