use Rattle.std.proofs.Common.{arith}
use Rattle.std.proofs.lemmas.Int.{ints}
use Rattle.fisca_num.proofs.Spelled.{decimal_short}
use Rattle.fisca_num.proofs.fractions.Fraction.put_fraction.Goals as goal

pub put_number-start-requires-clause-room : goal.put_number-start-requires-clause-room
put_number-start-requires-clause-room c = omega (arith, decimal_short c.self.inside.denominator c.self.inside.within.below)

pub put_byte-start-requires-clause-some : goal.put_byte-start-requires-clause-some
put_byte-start-requires-clause-some c = omega (arith, decimal_short c.self.inside.denominator c.self.inside.within.below)

pub put_number-start-requires-2-clause-room : goal.put_number-start-requires-2-clause-room
put_number-start-requires-2-clause-room c =
    let above = c.self.inside.within.above in
    omega (arith, decimal_short c.self.inside.denominator c.self.inside.within.below, decimal_short c.unsigned_abs.result (omega (arith, ints)))

pub put_sign-requires-clause-some : goal.put_sign-requires-clause-some
put_sign-requires-clause-some c =
    let above = c.self.inside.within.above in
    omega (arith, decimal_short c.self.inside.denominator c.self.inside.within.below, decimal_short c.unsigned_abs.result (omega (arith, ints)))
