-- Products whose factors were divided crosswise are in lowest terms.
use Rattle.std.proofs.Common.{◌≡◌, ℕ, ◌*◌, ◌/◌, ◌<◌, pos, ◌*ℤ◌, unsigned_abs, Bool, arith, ap, refl, sym, ◌∙◌}
use Rattle.std.specs.Int.{IsGcd}
use Rattle.std.proofs.Math.Nat.{mul-div_cancel', mul-le-mul_left}
use Rattle.fisca_num.specs.Rational.{IsLowest, signed}
use Rattle.fisca_num.specs.Number.{Number}
use Rattle.fisca_num.specs.Lowest.{IsCoprime, coprime_from_gcd}
use Rattle.fisca_num.specs.Reduced.{quotient_pos}
use Rattle.fisca_num.specs.Operations.{number_of, product_of}
use Rattle.fisca_num.proofs.Alike.{number_of_same, signed_same}
use Rattle.fisca_num.proofs.Coprime.{coprime_swap, coprime_product, parts_coprime, part_divides}
use Rattle.fisca_num.proofs.Cut.{lowest_of}

pub record IsProduct (x y : Number) (negative : Bool) (over under p q r s : ℕ) : Type 0 where
  pub sign : x.numerator *ℤ y.numerator ≡ signed negative (unsigned_abs x.numerator * unsigned_abs y.numerator)
  pub over_is : IsGcd (unsigned_abs x.numerator) y.denominator over
  pub under_is : IsGcd (unsigned_abs y.numerator) x.denominator under
  pub p_is : p ≡ unsigned_abs x.numerator / over
  pub q_is : q ≡ unsigned_abs y.numerator / under
  pub r_is : r ≡ x.denominator / under
  pub s_is : s ≡ y.denominator / over

some_product : (m n : ℕ) → 0 < m → 0 < n → 0 < m * n
some_product m n hm hn = omega (arith, mul-le-mul_left m hn)

crosswise : (a b c d over under : ℕ) → IsCoprime a b → IsCoprime c d → 0 < b → 0 < d → IsGcd a d over → IsGcd c b under → IsCoprime ((a / over) * (c / under)) ((b / under) * (d / over))
crosswise a b c d over under hab hcd hb hd ho hu =
    let left : IsCoprime (a / over) ((b / under) * (d / over)) = coprime_swap _ _ (coprime_product (b / under) (d / over) (a / over)
    (coprime_swap _ _ (parts_coprime a b (a / over) (b / under) (part_divides a over ho.0) (part_divides b under hu.1) hab))
    (coprime_swap _ _ (coprime_from_gcd a d over ho hd))) in
    let right : IsCoprime (c / under) ((b / under) * (d / over)) = coprime_swap _ _ (coprime_product (b / under) (d / over) (c / under)
    (coprime_swap _ _ (coprime_from_gcd c b under hu hb))
    (coprime_swap _ _ (parts_coprime c d (c / under) (d / over) (part_divides c under hu.0) (part_divides d over ho.1) hcd))) in
    coprime_product (a / over) (c / under) ((b / under) * (d / over)) left right

regrouped : (p q r s o u a b c d : ℕ) → o * p ≡ a → u * q ≡ c → u * r ≡ b → o * s ≡ d → p * q * (b * d) ≡ a * c * (r * s)
regrouped p q r s o u a b c d ha hc hb hd = rw (← ha, ← hb, ← hc, ← hd) (omega arith)

pub product_lowest : (x y : Number) (negative : Bool) (over under p q r s : ℕ) → IsProduct x y negative over under p q r s → IsLowest (signed negative (p * q)) (r * s)
product_lowest x y negative over under p q r s h =
    let some : 0 < (x.denominator / under) * (y.denominator / over) = some_product _ _ (quotient_pos _ _ _ h.under_is x.lowest.positive) (quotient_pos _ _ _ h.over_is y.lowest.positive) in
    rw (h.p_is, h.q_is, h.r_is, h.s_is) (lowest_of negative _ _ some
    (crosswise (unsigned_abs x.numerator) x.denominator (unsigned_abs y.numerator) y.denominator over under x.lowest.coprime y.lowest.coprime x.lowest.positive y.lowest.positive h.over_is h.under_is))

pub product_number : (x y : Number) (negative : Bool) (over under p q r s : ℕ) → IsProduct x y negative over under p q r s → number_of (record { numerator = signed negative (p * q); denominator = r * s }) ≡ product_of x y
unfolding product_of
product_number x y negative over under p q r s h =
    let some : 0 < r * s = (product_lowest x y negative over under p q r s h).positive in
    let a : over * p ≡ unsigned_abs x.numerator = ap (λ z. over * z) h.p_is ∙ mul-div_cancel' over h.over_is.0 in
    let c : under * q ≡ unsigned_abs y.numerator = ap (λ z. under * z) h.q_is ∙ mul-div_cancel' under h.under_is.0 in
    let b : under * r ≡ x.denominator = ap (λ z. under * z) h.r_is ∙ mul-div_cancel' under h.under_is.1 in
    let d : over * s ≡ y.denominator = ap (λ z. over * z) h.s_is ∙ mul-div_cancel' over h.over_is.1 in
    let same : signed negative (p * q) *ℤ pos (x.denominator * y.denominator) ≡ x.numerator *ℤ y.numerator *ℤ pos (r * s) =
    signed_same negative _ _ _ _ (regrouped p q r s over under _ _ _ _ a c b d) ∙ ap (λ z. z *ℤ pos (r * s)) (sym h.sign) in
    number_of_same _ _ some (some_product _ _ x.lowest.positive y.lowest.positive) same

-- whole numbers need no divisor
pub whole_product : (x y : Number) → x.denominator ≡ 1 → y.denominator ≡ 1 → number_of (record { numerator = x.numerator *ℤ y.numerator; denominator = 1 }) ≡ product_of x y
unfolding product_of
whole_product x y p q =
    let e : 1 ≡ x.denominator * y.denominator = rw (p, q) refl in
    ap (λ d. number_of (record { numerator = x.numerator *ℤ y.numerator; denominator = d })) e
