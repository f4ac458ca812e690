use Rattle.std.proofs.Common.{◌∙◌, ap, refl, length}
use Rattle.std.proofs.lemmas.Option.{slice_get_past, slice_get_read}
use Rattle.fisca_machine.proofs.Choosing.{none_placed, some_placed}
use Rattle.fisca_machine.proofs.found.place_at.Goals as goal

pub returns-in-None : goal.returns-in-None
returns-in-None c =
    let ps = c.as_slice.result.now in
    none_placed c.args.parameter.now c.args.chosen ps (c.as_slice.ensures.value ∙ ap (λ v. v.items) c.deref.ensures) (slice_get_past ps c.args.chosen c.in-None.ensures.lookup.3)

pub returns-in-Some : goal.returns-in-Some
returns-in-Some c =
    let ps = c.as_slice.result.now in
    let there = c.in-Some.ensures.lookup in
    some_placed c.args.parameter.now c.args.chosen ps c.in-Some.place.now (c.as_slice.ensures.value ∙ ap (λ v. v.items) c.deref.ensures) (slice_get_read ps (length ps) c.args.chosen c.in-Some.place.now refl there.3.0 there.1)
