use Rattle.std.proofs.Common.{arith, ◌≡◌, ◌*ℤ◌, length, ap, sym, ◌∙◌}
use Rattle.fisca_num.specs.Operations.{product_of}
use Rattle.fisca_vectors.specs.Numerators.{at, IsMade}
use Rattle.fisca_vectors.proofs.Operated.{IsBeside, Makes}
use Rattle.fisca_vectors.proofs.Multiplied.{multiplies, product_vector}
use Rattle.fisca_vectors.proofs.Terms.{same_lanes}
use Rattle.fisca_vectors.proofs.vector.Vector.mul.Goals as goal

pub invariant_of-result : goal.invariant_of-result
invariant_of-result c =
    let ns = c.self.inside.numerators.items in
    let ms = c.other.inside.numerators.items in
    let same : length ns ≡ length ms = same_lanes _ _ _ _ (ap length c.self.view_is ∙ c.requires ∙ sym (ap length c.other.view_is)) in
    let beside : IsBeside (length ns) c.other.inside.denominator c.other.inside.bound (λ k. at ms k) = record { positive = c.other.invariant.positive; below = c.other.invariant.below; bound_below = c.other.invariant.bound_below; bounded = λ k lt. c.other.invariant.bounded k (omega (arith, same)) } in
    let made : IsMade ◌*ℤ◌ ns (λ k. at ms k) c.in_ok-numerators.numerators.items = rw (c.deref.ensures.value, c.deref-2.ensures.value) at c.in_ok-numerators.ensures in
    let product : Makes product_of c.self.inside.denominator c.other.inside.denominator c.in-Some.denominator c.in-Some-product_within.bound ns (λ k. at ms k) c.in_ok-numerators.numerators.items = multiplies _ _ _ _ _ _ _ _ _ c.self.invariant beside c.in-Some.ensures.value c.in-Some.ensures.below c.in-Some-product_within.ensures.value c.in-Some-product_within.ensures.below made in
    product.vector

pub returns : goal.returns
returns c =
    let ns = c.self.inside.numerators.items in
    let ms = c.other.inside.numerators.items in
    let same : length ns ≡ length ms = same_lanes _ _ _ _ (ap length c.self.view_is ∙ c.requires ∙ sym (ap length c.other.view_is)) in
    let beside : IsBeside (length ns) c.other.inside.denominator c.other.inside.bound (λ k. at ms k) = record { positive = c.other.invariant.positive; below = c.other.invariant.below; bound_below = c.other.invariant.bound_below; bounded = λ k lt. c.other.invariant.bounded k (omega (arith, same)) } in
    let made : IsMade ◌*ℤ◌ ns (λ k. at ms k) c.in_ok-numerators.numerators.items = rw (c.deref.ensures.value, c.deref-2.ensures.value) at c.in_ok-numerators.ensures in
    let product : Makes product_of c.self.inside.denominator c.other.inside.denominator c.in-Some.denominator c.in-Some-product_within.bound ns (λ k. at ms k) c.in_ok-numerators.numerators.items = multiplies _ _ _ _ _ _ _ _ _ c.self.invariant beside c.in-Some.ensures.value c.in-Some.ensures.below c.in-Some-product_within.ensures.value c.in-Some-product_within.ensures.below made in
    rw (← c.self.view_is, ← c.other.view_is) (product_vector _ _ _ _ _ _ _ same product)
