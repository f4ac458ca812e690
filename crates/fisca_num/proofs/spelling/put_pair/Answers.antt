use Rattle.std.proofs.Common.{◌/◌, arith, refl, ap, length}
use Rattle.std.proofs.lemmas.Fmt.{decimal_digit, decimal_nonempty}
use Rattle.fisca_num.proofs.Spelled.{length_next, last_digit, last_pair}
use Rattle.fisca_num.proofs.spelling.put_pair.Goals as goal

pub put_byte-requires-clause-some : goal.put_byte-requires-clause-some
put_byte-requires-clause-some c = omega (arith, decimal_nonempty c.args.number (omega arith))

pub returns-then-number-lt10-clause-start : goal.returns-then-number-lt10-clause-start
returns-then-number-lt10-clause-start c = let one = ap length (decimal_digit c.args.number c.if-number-lt10.true) in omega arith

pub returns-then-number-lt10-clause-text : goal.returns-then-number-lt10-clause-text
returns-then-number-lt10-clause-text c = last_digit c.args.number _ _ _ c.if-number-lt10.true c.put_byte.ensures.text refl

pub put_byte-start-requires-clause-some : goal.put_byte-start-requires-clause-some
put_byte-start-requires-clause-some c = omega (arith, decimal_nonempty c.args.number (omega arith))

pub put_byte-requires-2-clause-some : goal.put_byte-requires-2-clause-some
put_byte-requires-2-clause-some c =
    let two = length_next c.args.number c.if-number-lt10.false (omega arith) in
    omega (arith, decimal_nonempty (c.args.number / 10) (omega arith))

pub returns-clause-start : goal.returns-clause-start
returns-clause-start c =
    let two = length_next c.args.number c.if-number-lt10.false (omega arith) in
    let one = ap length (decimal_digit (c.args.number / 10) (omega arith)) in
    omega arith

pub returns-clause-text : goal.returns-clause-text
returns-clause-text c = last_pair c.args.number _ _ _ _ c.if-number-lt10.false c.requires.pair c.put_byte-start.ensures.text c.put_byte-2.ensures.text refl
