use Rattle.std.proofs.Common.{◌≡◌, arith, ap, length, w64, to_z, of_z}
use Rattle.std.proofs.lemmas.Int.{ints}
use Rattle.std.specs.Fmt.{decimal}
use Rattle.std.proofs.Math.Nat.{mod-eq-sub-div-mul}
use Rattle.fisca_num.proofs.Spelled.{quotient_short}
use Rattle.fisca_num.proofs.Written.{written_numeral}
use Rattle.fisca_num.proofs.fractions.Fraction.put_numeral.Goals as goal

pub put_part-start-requires-clause-ends : goal.put_part-start-requires-clause-ends
put_part-start-requires-clause-ends c =
    let same : c.self.inside.denominator ≡ c.args.self.denominator = ap (λ n. n.denominator) c.self.view_is in
    rw same c.requires.places.covers

pub put_number-start-requires-clause-room : goal.put_number-start-requires-clause-room
put_number-start-requires-clause-room c =
    let above = c.self.inside.within.above in
    omega (arith, quotient_short c.unsigned_abs-size.result c.self.inside.denominator (omega (arith, ints)), ap (λ n. length (decimal n)) c.quotient_by-whole.ensures)

pub put_sign-requires-clause-some : goal.put_sign-requires-clause-some
put_sign-requires-clause-some c =
    let above = c.self.inside.within.above in
    omega (arith, quotient_short c.unsigned_abs-size.result c.self.inside.denominator (omega (arith, ints)), ap (λ n. length (decimal n)) c.quotient_by-whole.ensures)

pub returns-clause-text : goal.returns-clause-text
returns-clause-text c =
    let same : to_z w64 (of_z w64 c.self.inside.numerator) ≡ c.self.inside.numerator = omega (arith, ints) in
    written_numeral c.args.self c.self.inside.numerator c.self.inside.denominator c.args.count c.unsigned_abs-size.result _ _ _
    (ap (λ n. n.numerator) c.self.view_is) (ap (λ n. n.denominator) c.self.view_is) c.requires.places (omega (arith, ints)) (rw (c.quotient_by-whole.ensures, ← mod-eq-sub-div-mul c.unsigned_abs-size.result c.self.inside.denominator) at c.put_part-start.ensures.part) (rw c.quotient_by-whole.ensures at c.put_number-start.ensures.text) (rw same at c.put_sign.ensures.text)
