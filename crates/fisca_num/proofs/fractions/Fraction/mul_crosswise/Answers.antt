use Rattle.std.proofs.Common.{◌≡◌, ◌∙◌, ◌/◌, arith, ap, unsigned_abs, to_z, of_z, w64}
use Rattle.std.proofs.lemmas.Int.{ints}
use Rattle.fisca_num.specs.Lowest.{gcd_pos}
use Rattle.fisca_num.proofs.Products.{IsProduct, product_lowest, product_number}
use Rattle.fisca_num.proofs.fractions.Fraction.mul_crosswise.Goals as goal

pub quotient_by-requires : goal.quotient_by-requires
quotient_by-requires c = gcd_pos _ _ _ c.gcd-over.ensures c.other.inside.lowest.positive

pub quotient_by-requires-2 : goal.quotient_by-requires-2
quotient_by-requires-2 c = gcd_pos _ _ _ c.gcd-under.ensures c.self.inside.lowest.positive

pub quotient_by-requires-3 : goal.quotient_by-requires-3
quotient_by-requires-3 c = gcd_pos _ _ _ c.gcd-under.ensures c.self.inside.lowest.positive

pub quotient_by-requires-4 : goal.quotient_by-requires-4
quotient_by-requires-4 c = gcd_pos _ _ _ c.gcd-over.ensures c.other.inside.lowest.positive

pub from_lowest-requires : goal.from_lowest-requires
from_lowest-requires c =
    let b : c.self.inside.denominator ≡ c.args.self.denominator = ap (λ x. x.denominator) c.self.view_is in
    let d : c.other.inside.denominator ≡ c.args.other.denominator = ap (λ x. x.denominator) c.other.view_is in
    let n : to_z w64 (of_z w64 c.self.inside.numerator) ≡ c.args.self.numerator = let e : to_z w64 (of_z w64 c.self.inside.numerator) ≡ c.self.inside.numerator = omega (arith, ints) in e ∙ ap (λ x. x.numerator) c.self.view_is in
    let m : to_z w64 (of_z w64 c.other.inside.numerator) ≡ c.args.other.numerator = let e : to_z w64 (of_z w64 c.other.inside.numerator) ≡ c.other.inside.numerator = omega (arith, ints) in e ∙ ap (λ x. x.numerator) c.other.view_is in
    let s : c.unsigned_abs-size.result ≡ unsigned_abs c.args.self.numerator = c.unsigned_abs-size.ensures.value ∙ ap unsigned_abs n in
    let t : c.unsigned_abs-other_size.result ≡ unsigned_abs c.args.other.numerator = c.unsigned_abs-other_size.ensures.value ∙ ap unsigned_abs m in
    let product : IsProduct c.args.self c.args.other c.has_negative_product.result c.gcd-over.result c.gcd-under.result c.from.result c.from-2.result c.from-3.result c.from-4.result = record {
      sign = rw (n, m) at c.has_negative_product.ensures;
      over_is = rw (s, d) at c.gcd-over.ensures;
      under_is = rw (t, b) at c.gcd-under.ensures;
      p_is = c.from.ensures ∙ c.quotient_by.ensures ∙ ap (λ z. z / c.gcd-over.result) s;
      q_is = c.from-2.ensures ∙ c.quotient_by-2.ensures ∙ ap (λ z. z / c.gcd-under.result) t;
      r_is = c.from-3.ensures ∙ c.quotient_by-3.ensures ∙ ap (λ z. z / c.gcd-under.result) b;
      s_is = c.from-4.ensures ∙ c.quotient_by-4.ensures ∙ ap (λ z. z / c.gcd-over.result) d;
    } in
    product_lowest c.args.self c.args.other c.has_negative_product.result c.gcd-over.result c.gcd-under.result c.from.result c.from-2.result c.from-3.result c.from-4.result product

pub returns : goal.returns
returns c =
    let b : c.self.inside.denominator ≡ c.args.self.denominator = ap (λ x. x.denominator) c.self.view_is in
    let d : c.other.inside.denominator ≡ c.args.other.denominator = ap (λ x. x.denominator) c.other.view_is in
    let n : to_z w64 (of_z w64 c.self.inside.numerator) ≡ c.args.self.numerator = let e : to_z w64 (of_z w64 c.self.inside.numerator) ≡ c.self.inside.numerator = omega (arith, ints) in e ∙ ap (λ x. x.numerator) c.self.view_is in
    let m : to_z w64 (of_z w64 c.other.inside.numerator) ≡ c.args.other.numerator = let e : to_z w64 (of_z w64 c.other.inside.numerator) ≡ c.other.inside.numerator = omega (arith, ints) in e ∙ ap (λ x. x.numerator) c.other.view_is in
    let s : c.unsigned_abs-size.result ≡ unsigned_abs c.args.self.numerator = c.unsigned_abs-size.ensures.value ∙ ap unsigned_abs n in
    let t : c.unsigned_abs-other_size.result ≡ unsigned_abs c.args.other.numerator = c.unsigned_abs-other_size.ensures.value ∙ ap unsigned_abs m in
    let product : IsProduct c.args.self c.args.other c.has_negative_product.result c.gcd-over.result c.gcd-under.result c.from.result c.from-2.result c.from-3.result c.from-4.result = record {
      sign = rw (n, m) at c.has_negative_product.ensures;
      over_is = rw (s, d) at c.gcd-over.ensures;
      under_is = rw (t, b) at c.gcd-under.ensures;
      p_is = c.from.ensures ∙ c.quotient_by.ensures ∙ ap (λ z. z / c.gcd-over.result) s;
      q_is = c.from-2.ensures ∙ c.quotient_by-2.ensures ∙ ap (λ z. z / c.gcd-under.result) t;
      r_is = c.from-3.ensures ∙ c.quotient_by-3.ensures ∙ ap (λ z. z / c.gcd-under.result) b;
      s_is = c.from-4.ensures ∙ c.quotient_by-4.ensures ∙ ap (λ z. z / c.gcd-over.result) d;
    } in
    c.from_lowest.ensures ∙ product_number c.args.self c.args.other c.has_negative_product.result c.gcd-over.result c.gcd-under.result c.from.result c.from-2.result c.from-3.result c.from-4.result product
