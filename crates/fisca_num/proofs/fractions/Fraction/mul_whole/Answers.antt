use Rattle.std.proofs.Common.{◌≡◌, ◌∙◌, ◌*ℤ◌, arith, ap, to_z, of_z, w64}
use mir.Syntax.{w128}
use Rattle.std.proofs.lemmas.Int.{ints}
use Rattle.fisca_num.proofs.Products.{whole_product}
use Rattle.fisca_num.proofs.fractions.Fraction.mul_whole.Goals as goal

pub returns : goal.returns
returns c =
    let n : to_z w64 (of_z w64 c.self.inside.numerator) ≡ c.args.self.numerator = let e : to_z w64 (of_z w64 c.self.inside.numerator) ≡ c.self.inside.numerator = omega (arith, ints) in e ∙ ap (λ x. x.numerator) c.self.view_is in
    let m : to_z w64 (of_z w64 c.other.inside.numerator) ≡ c.args.other.numerator = let e : to_z w64 (of_z w64 c.other.inside.numerator) ≡ c.other.inside.numerator = omega (arith, ints) in e ∙ ap (λ x. x.numerator) c.other.view_is in
    let same : to_z w128 (of_z w128 c.multiplied.result) ≡ c.args.self.numerator *ℤ c.args.other.numerator =
    let e : to_z w128 (of_z w128 c.multiplied.result) ≡ c.multiplied.result = omega (arith, ints) in e ∙ (rw (n, m) at c.multiplied.ensures) in
    (rw same at c.from_whole.ensures) ∙ whole_product c.args.self c.args.other c.requires.left c.requires.right
