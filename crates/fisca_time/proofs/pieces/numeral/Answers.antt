use Rattle.fisca_time.proofs.Numerals.{numeral_from_number}
use Rattle.fisca_time.proofs.pieces.numeral.Goals as goal

pub returns-then-text-count-clause-value : goal.returns-then-text-count-clause-value
returns-then-text-count-clause-value c =
    let read = rw c.as_bytes.ensures.value at c.number_of.ensures in
    (numeral_from_number c.number_of.result c.args.count c.args.text.now c.requires c.if-text-count.true read).0

pub returns-then-text-count-clause-bound : goal.returns-then-text-count-clause-bound
returns-then-text-count-clause-bound c =
    let read = rw c.as_bytes.ensures.value at c.number_of.ensures in
    (numeral_from_number c.number_of.result c.args.count c.args.text.now c.requires c.if-text-count.true read).1
