-- What is worked out over one denominator is what fisca_num works out.
use Rattle.std.proofs.Common.{◌≡◌, ℕ, ◌*◌, ◌<◌, ℤ, pos, ◌+ℤ◌, ◌-ℤ◌, ◌*ℤ◌, arith, ap, sym, ◌∙◌, Ok}
use Rattle.std.proofs.Math.Nat.{mul_comm}
use Rattle.fisca_num.specs.Rational.{Ratio, IsSame, ratio_sum, ratio_difference, ratio_product}
use Rattle.fisca_num.specs.Number.{Number, ratio_of}
use Rattle.fisca_num.specs.Integers.{sum-times, difference-times, times_pos, times_assoc, times_swap}
use Rattle.fisca_num.specs.Operations.{number_of, sum_of, difference_of, product_of}
use Rattle.fisca_vectors.specs.Numerators.{pair, lane_of}
use Rattle.fisca_num.proofs.Alike.{number_of_same}
use Rattle.fisca_vectors.proofs.Terms.{Fits, lane_reduces, lane_is, some_product}

turned : (d f k : ℕ) → k * (d * f) ≡ d * (f * k)
turned d f k = omega arith

-- u / e is n / d: u * k over e * k is n * f over d * f
pub term : (u n : ℤ) (e d f k : ℕ) → u *ℤ pos d ≡ n *ℤ pos e → (u *ℤ pos k) *ℤ pos (d * f) ≡ (n *ℤ pos f) *ℤ pos (e * k)
term u n e d f k h =
    times_pos u k (d * f) ∙ ap (λ z. u *ℤ pos z) (turned d f k) ∙ sym (times_pos u d (f * k)) ∙ ap (λ z. z *ℤ pos (f * k)) h
    ∙ times_pos n e (f * k) ∙ ap (λ z. n *ℤ pos z) (turned' e f k) ∙ sym (times_pos n f (e * k))
  where
    turned' : (e f k : ℕ) → e * (f * k) ≡ f * (e * k)
    turned' e f k = omega arith

same_sum : (v w : Ratio) (n m : ℤ) (d e f g l : ℕ) → IsSame v (pair n d) → IsSame w (pair m e) → d * f ≡ l → e * g ≡ l → IsSame (ratio_sum v w) (pair ((n *ℤ pos f) +ℤ (m *ℤ pos g)) l)
same_sum v w n m d e f g l hv hw hl hr =
    sum-times (v.numerator *ℤ pos w.denominator) (w.numerator *ℤ pos v.denominator) (pos l)
    ∙ ap (λ z. (v.numerator *ℤ pos w.denominator) *ℤ pos z +ℤ (w.numerator *ℤ pos v.denominator) *ℤ pos l) (sym hl)
    ∙ ap (λ z. (v.numerator *ℤ pos w.denominator) *ℤ pos (d * f) +ℤ (w.numerator *ℤ pos v.denominator) *ℤ pos z) (sym hr)
    ∙ ap (λ z. z +ℤ (w.numerator *ℤ pos v.denominator) *ℤ pos (e * g)) (term v.numerator n v.denominator d f w.denominator hv)
    ∙ ap (λ z. (n *ℤ pos f) *ℤ pos (v.denominator * w.denominator) +ℤ z) (term w.numerator m w.denominator e g v.denominator hw)
    ∙ ap (λ z. (n *ℤ pos f) *ℤ pos (v.denominator * w.denominator) +ℤ (m *ℤ pos g) *ℤ pos z) (mul_comm w.denominator v.denominator)
    ∙ sym (sum-times (n *ℤ pos f) (m *ℤ pos g) (pos (v.denominator * w.denominator)))

-- the sum of two lanes
pub sum_lane : (n m : ℤ) (d e f g l : ℕ) → Fits n d → Fits m e → d * f ≡ l → e * g ≡ l → Fits ((n *ℤ pos f) +ℤ (m *ℤ pos g)) l →
    sum_of (lane_of d n) (lane_of e m) ≡ Ok (lane_of l ((n *ℤ pos f) +ℤ (m *ℤ pos g)))
unfolding sum_of
sum_lane n m d e f g l hn hm hl hr fits =
    let x = lane_reduces n d hn in
    let y = lane_reduces m e hm in
    number_of_same _ (pair ((n *ℤ pos f) +ℤ (m *ℤ pos g)) l) (some_product _ _ (lane_of d n).lowest.positive (lane_of e m).lowest.positive) fits.positive
    (same_sum (ratio_of (lane_of d n)) (ratio_of (lane_of e m)) n m d e f g l x.same y.same hl hr)
    ∙ lane_is _ l fits

same_difference : (v w : Ratio) (n m : ℤ) (d e f g l : ℕ) → IsSame v (pair n d) → IsSame w (pair m e) → d * f ≡ l → e * g ≡ l → IsSame (ratio_difference v w) (pair ((n *ℤ pos f) -ℤ (m *ℤ pos g)) l)
same_difference v w n m d e f g l hv hw hl hr =
    difference-times (v.numerator *ℤ pos w.denominator) (w.numerator *ℤ pos v.denominator) (pos l)
    ∙ ap (λ z. (v.numerator *ℤ pos w.denominator) *ℤ pos z -ℤ (w.numerator *ℤ pos v.denominator) *ℤ pos l) (sym hl)
    ∙ ap (λ z. (v.numerator *ℤ pos w.denominator) *ℤ pos (d * f) -ℤ (w.numerator *ℤ pos v.denominator) *ℤ pos z) (sym hr)
    ∙ ap (λ z. z -ℤ (w.numerator *ℤ pos v.denominator) *ℤ pos (e * g)) (term v.numerator n v.denominator d f w.denominator hv)
    ∙ ap (λ z. (n *ℤ pos f) *ℤ pos (v.denominator * w.denominator) -ℤ z) (term w.numerator m w.denominator e g v.denominator hw)
    ∙ ap (λ z. (n *ℤ pos f) *ℤ pos (v.denominator * w.denominator) -ℤ (m *ℤ pos g) *ℤ pos z) (mul_comm w.denominator v.denominator)
    ∙ sym (difference-times (n *ℤ pos f) (m *ℤ pos g) (pos (v.denominator * w.denominator)))

-- the difference of two lanes
pub difference_lane : (n m : ℤ) (d e f g l : ℕ) → Fits n d → Fits m e → d * f ≡ l → e * g ≡ l → Fits ((n *ℤ pos f) -ℤ (m *ℤ pos g)) l →
    difference_of (lane_of d n) (lane_of e m) ≡ Ok (lane_of l ((n *ℤ pos f) -ℤ (m *ℤ pos g)))
unfolding difference_of
difference_lane n m d e f g l hn hm hl hr fits =
    let x = lane_reduces n d hn in
    let y = lane_reduces m e hm in
    number_of_same _ (pair ((n *ℤ pos f) -ℤ (m *ℤ pos g)) l) (some_product _ _ (lane_of d n).lowest.positive (lane_of e m).lowest.positive) fits.positive
    (same_difference (ratio_of (lane_of d n)) (ratio_of (lane_of e m)) n m d e f g l x.same y.same hl hr)
    ∙ lane_is _ l fits

pub same_product : (v w : Ratio) (n m : ℤ) (d e : ℕ) → IsSame v (pair n d) → IsSame w (pair m e) → IsSame (ratio_product v w) (pair (n *ℤ m) (d * e))
same_product v w n m d e hv hw =
    sym (times_pos (v.numerator *ℤ w.numerator) d e)
    ∙ ap (λ z. z *ℤ pos e) (times_swap v.numerator w.numerator (pos d) ∙ ap (λ z. z *ℤ w.numerator) hv)
    ∙ times_assoc (n *ℤ pos v.denominator) w.numerator (pos e)
    ∙ ap (λ z. (n *ℤ pos v.denominator) *ℤ z) hw
    ∙ sym (times_assoc (n *ℤ pos v.denominator) m (pos w.denominator))
    ∙ ap (λ z. z *ℤ pos w.denominator) (times_swap n (pos v.denominator) m)
    ∙ times_pos (n *ℤ m) v.denominator w.denominator

-- the product of two lanes
pub product_lane : (n m : ℤ) (d e : ℕ) → Fits n d → Fits m e → Fits (n *ℤ m) (d * e) → product_of (lane_of d n) (lane_of e m) ≡ Ok (lane_of (d * e) (n *ℤ m))
unfolding product_of
product_lane n m d e hn hm fits =
    let x = lane_reduces n d hn in
    let y = lane_reduces m e hm in
    number_of_same _ (pair (n *ℤ m) (d * e)) (some_product _ _ (lane_of d n).lowest.positive (lane_of e m).lowest.positive) fits.positive
    (same_product (ratio_of (lane_of d n)) (ratio_of (lane_of e m)) n m d e x.same y.same)
    ∙ lane_is _ (d * e) fits
