-- Floors and ceilings.
use Rattle.std.proofs.Common.{◌≡◌, ℕ, ◌+◌, ◌*◌, ◌/◌, ◌%◌, ◌<◌, ◌≤◌, ◌↔◌, ℤ, pos, negsuc, neg_ℤ, ◌+ℤ◌, ◌*ℤ◌, ◌≤ℤ◌, ◌<ℤ◌, arith, sym, subst, inl, inr}
use lib.Signed.{≤ℤ_refl}
use Rattle.std.specs.Int.{int_div_euclid}
use borrow.Author.Differences.{up, down, product_is}
use Rattle.std.proofs.lemmas.Bool.{cases_lt}
use Rattle.std.proofs.lemmas.Int.{ints}
use Rattle.std.proofs.Math.Nat.{mod-add-div', mod-lt, mul-le-mul_left, mul-lt-mul_of_pos_left}
use Rattle.fisca_num.specs.Integers.{neg-times}
use Rattle.fisca_num.specs.Nearest.{IsAtMost, IsFloor, IsCeiling}
use Rattle.fisca_num.specs.Number.{Number, ratio_of, negation_of}
use Rattle.fisca_num.specs.Rational.{Ratio}
use Rattle.fisca_num.specs.Rounding.{floor_of, ceil_of}
use Rattle.fisca_num.proofs.Near.{at_most_parts, once}

floor_pos : (n d : ℕ) → 0 < d → IsFloor (record { numerator = pos n; denominator = d }) (pos (n / d))
floor_pos n d some =
    let small : n % d < d = mod-lt n some in
    let p = product_is (pos (n / d)) (pos d) in
    record { at_most = omega (arith, ints, p, mod-add-div' n d); above = omega (arith, ints, p, small, mod-add-div' n d) }

floor_negsuc : (n d : ℕ) → 0 < d → IsFloor (record { numerator = negsuc n; denominator = d }) (negsuc (n / d))
floor_negsuc n d some =
    let small : n % d < d = mod-lt n some in
    let p = product_is (negsuc (n / d)) (pos d) in
    record { at_most = omega (arith, ints, p, small, mod-add-div' n d); above = omega (arith, ints, p, mod-add-div' n d) }

floor_is : (n : ℤ) (d : ℕ) → 0 < d → IsFloor (record { numerator = n; denominator = d }) (int_div_euclid n (pos d))
floor_is (pos n) = floor_pos n
floor_is (negsuc n) = floor_negsuc n

-- ---- floors rise with what they are below

rise : (ku kd lu ld nu nd mu md d e : ℕ) → 0 < d → 0 < e → ku * d + nd ≤ nu + kd * d → mu + ld * e < lu * e + md + e → nu * e + md * d ≤ mu * d + nd * e → ku + ld ≤ lu + kd
rise ku kd lu ld nu nd mu md d e hd he b c le =
    elim (cases_lt (lu + kd) (ku + ld)) [
      | inl far ↦ absurd (omega (arith, mul-le-mul_left e b, mul-lt-mul_of_pos_left c hd, le, mul-le-mul_left (d * e) far))
      | inr near ↦ near
    ]

below_parts : (k n : ℤ) (d : ℕ) → (k *ℤ pos d) ≤ℤ n → up k * d + down n ≤ up n + down k * d
below_parts k n d h = omega (arith, ints, h, product_is k (pos d))

above_parts : (k n : ℤ) (d : ℕ) → n <ℤ ((k *ℤ pos d) +ℤ pos d) → up n + down k * d < up k * d + down n + d
above_parts k n d h = omega (arith, ints, h, product_is k (pos d))

floor_rises : (r s : Ratio) (k l : ℤ) → 0 < r.denominator → 0 < s.denominator → IsAtMost r s → IsFloor r k → IsFloor s l → k ≤ℤ l
floor_rises r s k l hr hs le x y =
    let h : up k + down l ≤ up l + down k = rise (up k) (down k) (up l) (down l) (up r.numerator) (down r.numerator) (up s.numerator) (down s.numerator) r.denominator s.denominator hr hs (below_parts k r.numerator r.denominator x.at_most) (above_parts l s.numerator s.denominator y.above) (at_most_parts r.numerator s.numerator r.denominator s.denominator le) in
    omega (arith, ints, h)

floor_once : (r : Ratio) (k l : ℤ) → 0 < r.denominator → IsFloor r k → IsFloor r l → k ≡ l
floor_once r k l some x y = once k l (floor_rises r r k l some some (≤ℤ_refl _) x y) (floor_rises r r l k some some (≤ℤ_refl _) y x)

pub floor_law : (v : Number) (k : ℤ) → IsFloor (ratio_of v) k ↔ (k ≡ floor_of v)
floor_law v k = (λ x. floor_once (ratio_of v) k (floor_of v) v.lowest.positive x is, λ e. subst (IsFloor (ratio_of v)) (sym e) is)
  where
    is : IsFloor (ratio_of v) (floor_of v)
    is = floor_is v.numerator v.denominator v.lowest.positive

-- ---- ceilings are floors of the negated

ceiling_of_floor : (n k : ℤ) (d : ℕ) → IsFloor (record { numerator = neg_ℤ n; denominator = d }) k → IsCeiling (record { numerator = n; denominator = d }) (neg_ℤ k)
ceiling_of_floor n k d x =
    let a = x.at_most in
    let b = x.above in
    record { at_least = rw (neg-times k (pos d)) (omega (arith, ints, a)); below = rw (neg-times k (pos d)) (omega (arith, ints, b)) }

floor_of_ceiling : (n k : ℤ) (d : ℕ) → IsCeiling (record { numerator = n; denominator = d }) k → IsFloor (record { numerator = neg_ℤ n; denominator = d }) (neg_ℤ k)
floor_of_ceiling n k d x =
    let a = x.at_least in
    let b = x.below in
    record { at_most = rw (neg-times k (pos d)) (omega (arith, ints, a)); above = rw (neg-times k (pos d)) (omega (arith, ints, b)) }

ceil_is : (v : Number) → IsCeiling (ratio_of v) (ceil_of v)
ceil_is v = ceiling_of_floor v.numerator (floor_of (negation_of v)) v.denominator (floor_is (neg_ℤ v.numerator) v.denominator v.lowest.positive)

turned : (k l : ℤ) → neg_ℤ k ≡ l → k ≡ neg_ℤ l
turned k l h = omega (arith, ints, h)

pub ceil_law : (v : Number) (k : ℤ) → IsCeiling (ratio_of v) k ↔ (k ≡ ceil_of v)
ceil_law v k = (λ x. turned k (floor_of (negation_of v)) ((floor_law (negation_of v) (neg_ℤ k)).0 (floor_of_ceiling v.numerator k v.denominator x)), λ e. subst (IsCeiling (ratio_of v)) (sym e) (ceil_is v))

opposite_rises : (n m : ℤ) (d e : ℕ) → (n *ℤ pos e) ≤ℤ (m *ℤ pos d) → (neg_ℤ m *ℤ pos d) ≤ℤ (neg_ℤ n *ℤ pos e)
opposite_rises n m d e h = rw (neg-times m (pos d), neg-times n (pos e)) (omega (arith, ints, h))

less_turned : (k l : ℤ) → k ≤ℤ l → neg_ℤ l ≤ℤ neg_ℤ k
less_turned k l h = omega (arith, ints, h)

pub floor_of_rises : (v w : Number) → IsAtMost (ratio_of v) (ratio_of w) → floor_of v ≤ℤ floor_of w
floor_of_rises v w le = floor_rises (ratio_of v) (ratio_of w) (floor_of v) (floor_of w) v.lowest.positive w.lowest.positive le (floor_is v.numerator v.denominator v.lowest.positive) (floor_is w.numerator w.denominator w.lowest.positive)

pub ceil_of_rises : (v w : Number) → IsAtMost (ratio_of v) (ratio_of w) → ceil_of v ≤ℤ ceil_of w
ceil_of_rises v w le = less_turned _ _ (floor_of_rises (negation_of w) (negation_of v) (opposite_rises v.numerator w.numerator v.denominator w.denominator le))
