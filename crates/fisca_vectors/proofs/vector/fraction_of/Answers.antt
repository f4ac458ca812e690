use Rattle.std.proofs.Common.{arith, ◌≡◌, ap, ◌∙◌, pos, w64, to_z, of_z}
use Rattle.std.proofs.lemmas.Int.{ints, to_z-of_z}
use Rattle.fisca_num.specs.Operations.{number_over}
use Rattle.fisca_vectors.specs.Numerators.{lane_of, number_or_zero}
use Rattle.fisca_vectors.proofs.vector.fraction_of.Goals as goal

pub returns-in-Ok : goal.returns-in-Ok
unfolding lane_of number_over
returns-in-Ok c =
    let e : to_z w64 c.args.denominator ≡ pos c.args.denominator = omega (arith, ints) in
    let f : to_z w64 (of_z w64 c.args.numerator) ≡ c.args.numerator = to_z-of_z w64 c.args.numerator c.ranges.numerator in
    ap number_or_zero (c.in-Ok.ensures ∙ ap (λ z. number_over z (to_z w64 c.args.denominator)) f ∙ ap (λ z. number_over c.args.numerator z) e)

pub returns-in-Err : goal.returns-in-Err
unfolding lane_of number_over
returns-in-Err c =
    let e : to_z w64 c.args.denominator ≡ pos c.args.denominator = omega (arith, ints) in
    let f : to_z w64 (of_z w64 c.args.numerator) ≡ c.args.numerator = to_z-of_z w64 c.args.numerator c.ranges.numerator in
    c.zero.ensures ∙ ap number_or_zero (c.in-Err.ensures ∙ ap (λ z. number_over z (to_z w64 c.args.denominator)) f ∙ ap (λ z. number_over c.args.numerator z) e)
