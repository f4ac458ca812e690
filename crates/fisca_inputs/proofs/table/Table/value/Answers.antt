use Rattle.std.proofs.Common.{sym}
use Rattle.std.proofs.lemmas.Option.{slice_get_within}
use Rattle.fisca_inputs.proofs.Numbered.{value_here}
use Rattle.fisca_inputs.proofs.table.Table.value.Goals as goal

pub returns-in-Some : goal.returns-in-Some
returns-in-Some c =
    let es = c.args.self.now.entries.items in
    sym (value_here es c.args.key.now c.in-Some.place c.index.result.now c.args.self.now.once c.in-Some.ensures c.index.ensures (slice_get_within es c.in-Some.place _ c.in-Some.ensures.there))
