use Rattle.std.proofs.Common.{rules, ◌≡◌, ◌*◌, ◌*ℤ◌, pos, ap, ◌∙◌, w64, FitsSigned, unsigned_abs}
use Rattle.std.proofs.lemmas.Int.{to_z-of_z}
use Rattle.fisca_vectors.specs.Numerators.{IsMade}
use Rattle.fisca_vectors.proofs.Multiplied.{MakesEach, product_uniform}
use Rattle.fisca_vectors.proofs.vector.Vector.mul_uniform.Goals as goal

pub invariant_of-result : goal.invariant_of-result
invariant_of-result c =
    let v = c.args.other in
    let ns = c.self.inside.numerators.items in
    let x : FitsSigned w64 c.in-Some.cut.numerator = search rules in
    let y : FitsSigned w64 c.numerator.result = search rules in
    let made : IsMade ◌*ℤ◌ ns (λ _. c.in-Some.cut.numerator) c.in_ok-numerators.numerators.items = rw (c.deref.ensures.value, to_z-of_z w64 c.in-Some.cut.numerator x) at c.in_ok-numerators.ensures in
    let cut : c.in-Some.cut.numerator *ℤ pos c.in-Some.cut.divisor ≡ v.numerator = (simp to_z-of_z at c.in-Some.ensures.numerator) ∙ c.numerator.ensures in
    let bound : c.in-Some-product_within-2.bound ≡ c.self.inside.bound * unsigned_abs c.in-Some.cut.numerator = c.in-Some-product_within-2.ensures.value ∙ ap (λ z. c.self.inside.bound * z) (simp to_z-of_z at c.unsigned_abs.ensures.value) in
    let under : c.in-Some-product_within.denominator ≡ c.in-Some.cut.denominator * v.denominator = c.in-Some-product_within.ensures.value ∙ ap (λ z. c.in-Some.cut.denominator * z) c.denominator.ensures in
    let product : MakesEach v c.self.inside.denominator c.in-Some-product_within.denominator c.in-Some-product_within-2.bound ns c.in_ok-numerators.numerators.items = product_uniform v _ _ _ _ _ _ _ _ _ c.self.invariant cut c.in-Some.ensures.denominator c.in-Some.ensures.some under c.in-Some-product_within.ensures.below bound c.in-Some-product_within-2.ensures.below made in
    product.vector

pub returns : goal.returns
returns c =
    let v = c.args.other in
    let ns = c.self.inside.numerators.items in
    let x : FitsSigned w64 c.in-Some.cut.numerator = search rules in
    let y : FitsSigned w64 c.numerator.result = search rules in
    let made : IsMade ◌*ℤ◌ ns (λ _. c.in-Some.cut.numerator) c.in_ok-numerators.numerators.items = rw (c.deref.ensures.value, to_z-of_z w64 c.in-Some.cut.numerator x) at c.in_ok-numerators.ensures in
    let cut : c.in-Some.cut.numerator *ℤ pos c.in-Some.cut.divisor ≡ v.numerator = (simp to_z-of_z at c.in-Some.ensures.numerator) ∙ c.numerator.ensures in
    let bound : c.in-Some-product_within-2.bound ≡ c.self.inside.bound * unsigned_abs c.in-Some.cut.numerator = c.in-Some-product_within-2.ensures.value ∙ ap (λ z. c.self.inside.bound * z) (simp to_z-of_z at c.unsigned_abs.ensures.value) in
    let under : c.in-Some-product_within.denominator ≡ c.in-Some.cut.denominator * v.denominator = c.in-Some-product_within.ensures.value ∙ ap (λ z. c.in-Some.cut.denominator * z) c.denominator.ensures in
    let product : MakesEach v c.self.inside.denominator c.in-Some-product_within.denominator c.in-Some-product_within-2.bound ns c.in_ok-numerators.numerators.items = product_uniform v _ _ _ _ _ _ _ _ _ c.self.invariant cut c.in-Some.ensures.denominator c.in-Some.ensures.some under c.in-Some-product_within.ensures.below bound c.in-Some-product_within-2.ensures.below made in
    rw (← c.self.view_is) product.each
