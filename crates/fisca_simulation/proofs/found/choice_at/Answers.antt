use Rattle.std.proofs.Common.{refl, length}
use Rattle.std.proofs.lemmas.Option.{slice_get_past, slice_get_read}
use Rattle.fisca_machine.proofs.Choosing.{none_there, some_there}
use Rattle.fisca_simulation.proofs.found.choice_at.Goals as goal

pub returns-in-None : goal.returns-in-None
returns-in-None c =
    let is = c.as_slice.result.now in
    none_there c.args.parameter.now c.args.next is c.as_slice.ensures.value (slice_get_past is c.args.next c.in-None.ensures.lookup.3)

pub returns-in-Some : goal.returns-in-Some
returns-in-Some c =
    let is = c.as_slice.result.now in
    let there = c.in-Some.ensures.lookup in
    some_there c.args.parameter.now c.args.next is c.in-Some.index.now c.deref.result.now c.as_slice.ensures.value (slice_get_read is (length is) c.args.next c.in-Some.index.now refl there.3.0 there.1) c.deref.ensures
