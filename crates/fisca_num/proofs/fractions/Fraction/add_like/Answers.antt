use Rattle.std.proofs.Common.{◌≡◌, ◌∙◌, ◌+ℤ◌, arith, ap, to_z, of_z}
use mir.Syntax.{w128}
use Rattle.std.proofs.lemmas.Int.{ints}
use Rattle.fisca_num.proofs.Sums.{like_number}
use Rattle.fisca_num.proofs.fractions.Fraction.add_like.Goals as goal

pub returns : goal.returns
returns c =
    let n : c.self.inside.numerator ≡ c.args.self.numerator = ap (λ x. x.numerator) c.self.view_is in
    let m : c.other.inside.numerator ≡ c.args.other.numerator = ap (λ x. x.numerator) c.other.view_is in
    let d : c.self.inside.denominator ≡ c.args.self.denominator = ap (λ x. x.denominator) c.self.view_is in
    let same : to_z w128 (of_z w128 c.added-sum.result) ≡ c.self.inside.numerator +ℤ c.other.inside.numerator = omega (arith, ints, c.added-sum.ensures.value) in
    (rw (same, n, m, d) at c.reduce_word_sum.ensures) ∙ like_number c.args.self c.args.other c.requires
