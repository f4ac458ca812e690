use Rattle.std.proofs.Common.{arith}
use Rattle.std.specs.Map.{keys_of}
use Rattle.std.proofs.lemmas.Map.Entries.{length-keys_of}
use Rattle.fisca_model.specs.contracts.key.KeyEq.TheImpl.Laws.{laws-law}
use Rattle.fisca_inputs.proofs.Numbered.{number_within, numbers_begin, numbers_go_on, numbers_next, numbers_some, own_number}
use Rattle.fisca_inputs.proofs.table.renumber_all.Goals as goal

pub loop-place-init : goal.loop-place-init
loop-place-init c = record {
  done = numbers_begin c.args.entries.now c.args.pages.now.entries c.requires.free;
  noted = numbers_some c.args.entries.now c.args.pages.now.entries c.requires.noted;
}

pub renumber-requires : goal.renumber-requires
renumber-requires c =
    let e = c.index-entries-place.result in
    c.loop-place.invariant.noted e.0
    (omega (arith, own_number c.args.entries.now c.requires.once c.loop-place.place e c.loop-place-test.true c.index-entries-place.is e.0 (laws-law.refl e.0)))

pub loop-place-preserved : goal.loop-place-preserved
loop-place-preserved c =
    let es = c.args.entries.now in
    let e = c.index-entries-place.result in
    record {
      done = numbers_go_on es c.requires.once c.loop-place.place e c.loop-place-test.true c.index-entries-place.is c.loop-place.pages.entries c.renumber.new.pages.entries c.renumber.ensures c.loop-place.invariant.done;
      noted = numbers_next es c.requires.once c.loop-place.place e c.loop-place-test.true c.index-entries-place.is c.loop-place.pages.entries c.renumber.new.pages.entries c.renumber.ensures c.loop-place.invariant.noted;
    }

pub returns : goal.returns
returns c k =
    c.loop-place.invariant.done k
    (omega (arith, number_within 0 (keys_of c.args.entries.now) k, length-keys_of c.args.entries.now, c.loop-place-test.false, c.loop-place.auto.place-end))
