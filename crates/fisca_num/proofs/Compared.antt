-- Numbers over one denominator compare as their numerators do.
use Rattle.std.proofs.Common.{◌≡◌, ℕ, ◌+◌, ◌*◌, ◌<◌, arith, ap, sym, ◌∙◌, refl}
use borrow.Author.Differences.{up, down}
use Rattle.std.proofs.lemmas.Cmp.{ranked}
use Rattle.std.specs.Cmp.{nat_cmp_is}
use Rattle.std.specs.declared.cmp.Ordering.{Ordering}
use Rattle.std.specs.declared.cmp.Ordering.TheVariants.{Less, Equal, Greater}
use Rattle.std.specs.Ordering.{int_cmp, nat_cmp, MatchOrdering}
use Rattle.std.proofs.Math.Nat.{mul-lt-mul_of_pos_left}
use Rattle.fisca_num.specs.Number.{Number, number_cmp}
use Rattle.fisca_num.specs.Order.{int_cmp_by_parts, side, by_sides}

scaled : (r : Ordering) (d p q s t : ℕ) → 0 < d → s ≡ d * p → t ≡ d * q → MatchOrdering r (p < q) (p ≡ q) (q < p) → MatchOrdering r (s < t) (s ≡ t) (t < s)
scaled Less d p q s t some e f h = omega (arith, e, f, mul-lt-mul_of_pos_left h some)
scaled Equal d p q s t some e f h = e ∙ ap (λ z. d * z) h ∙ sym f
scaled Greater d p q s t some e f h = omega (arith, e, f, mul-lt-mul_of_pos_left h some)

side_is : (a b : Number) → a.denominator ≡ b.denominator → side a b ≡ b.denominator * (up a.numerator + down b.numerator)
side_is a b e = omega (arith, ap (λ z. down b.numerator * z) e)

other_side_is : (a b : Number) → a.denominator ≡ b.denominator → side b a ≡ b.denominator * (up b.numerator + down a.numerator)
other_side_is a b e = omega (arith, ap (λ z. up b.numerator * z) e)

pub like_cmp : (a b : Number) → a.denominator ≡ b.denominator → int_cmp a.numerator b.numerator ≡ number_cmp a b
like_cmp a b e =
    let p : ℕ = up a.numerator + down b.numerator in
    let q : ℕ = up b.numerator + down a.numerator in
    int_cmp_by_parts a.numerator b.numerator
    ∙ nat_cmp_is (side a b) (side b a) (nat_cmp p q) (scaled (nat_cmp p q) b.denominator p q (side a b) (side b a) b.lowest.positive (side_is a b e) (other_side_is a b e) (ranked p q (nat_cmp p q) refl))
    ∙ sym (by_sides a b)
