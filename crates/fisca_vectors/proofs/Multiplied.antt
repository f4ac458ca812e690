-- Products and quotients of lanes.
use Rattle.std.proofs.Common.{◌≡◌, ℕ, zero, suc, ◌*◌, ◌<◌, ◌≤◌, ◌^◌, ℤ, pos, negsuc, neg_ℤ, ◌*ℤ◌, unsigned_abs, arith, ap, sym, subst, ◌∙◌, refl, List, length, Ok}
use Rattle.std.proofs.lemmas.Int.{ints, unsigned_abs-mul}
use Rattle.std.proofs.Math.Nat.{mul-le-mul_left, mul_comm}
use Rattle.std.proofs.Math.IntN.{*ℤ_comm}
use Rattle.fisca_num.specs.Rational.{Ratio, IsSame, Reduces, over, ratio_product, ratio_quotient}
use Rattle.fisca_num.specs.Number.{Number, ratio_of, one_number}
use Rattle.fisca_num.specs.Value.{IsNumberOf}
use Rattle.fisca_num.specs.Integers.{times_pos, times_assoc, times_swap, neg-times}
use Rattle.fisca_num.specs.Operations.{number_of, is_number_of, product_of, quotient_of}
use Rattle.fisca_vectors.specs.Vectors.{lane, IsLanewise, IsOfEach}
use Rattle.fisca_vectors.specs.Numerators.{at, pair, lane_of, lanes_of, IsVector, IsMade}
use Rattle.fisca_num.proofs.Alike.{number_of_same, same_through}
use Rattle.fisca_vectors.proofs.Terms.{Fits, lane_reduces, lane_is, some_product, lane_at, count, own_lane}
use Rattle.fisca_vectors.proofs.Level.{product_lane, same_product}
use Rattle.fisca_vectors.proofs.Laws.{scaled_size}
use Rattle.fisca_vectors.proofs.Operated.{IsBeside, Makes, makes}

product_size : (n m : ℤ) (a b : ℕ) → unsigned_abs n ≤ a → unsigned_abs m ≤ b → unsigned_abs (n *ℤ m) ≤ a * b
product_size n m a b p q = omega (arith, unsigned_abs-mul n m, scaled_size (unsigned_abs n) a (unsigned_abs m) p, mul-le-mul_left a q)

pub multiplies : (d e l a b c : ℕ) (ns : List ℤ) (ms : ℕ → ℤ) (cs : List ℤ) → IsVector d a ns → IsBeside (length ns) e b ms → l ≡ d * e → l < 2 ^ 63 → c ≡ a * b → c < 2 ^ 63 →
    IsMade ◌*ℤ◌ ns ms cs → Makes product_of d e l c ns ms cs
multiplies d e l a b c ns ms cs hn hm is below bound fits made =
    rw is (makes product_of ◌*ℤ◌ d e (d * e) a b c ns ms cs hn hm (some_product d e hn.positive hm.positive) (rw is at below) fits
    (λ n m p q. rw bound (product_size n m a b p q))
    (λ n m p q r. product_lane n m d e p q r)
    made)

-- with a vector
pub product_vector : (d e l c : ℕ) (ns ms cs : List ℤ) → length ns ≡ length ms → Makes product_of d e l c ns (λ k. at ms k) cs → IsLanewise product_of (lanes_of d ns) (lanes_of e ms) (lanes_of l cs)
product_vector d e l c ns ms cs same h = record { lanes = count l cs ∙ h.lanes ∙ sym (count d ns); each = each }
  where
    each : (k : ℕ) → k < length (lanes_of d ns) → product_of (lane (lanes_of d ns) k) (lane (lanes_of e ms) k) ≡ Ok (lane (lanes_of l cs) k)
    each k lt =
        let p : k < length ns = omega (arith, count d ns) in
        let q : k < length cs = omega (arith, h.lanes) in
        rw (lane_at d ns k p, lane_at e ms k (omega arith), lane_at l cs k q) (h.each k p)

same_cut : (n m k : ℤ) (d c e g : ℕ) → k *ℤ pos g ≡ m → c * g ≡ d → IsSame (pair (n *ℤ m) (d * e)) (pair (n *ℤ k) (c * e))
same_cut n m k d c e g hm hd =
    ap (λ z. z *ℤ pos (c * e)) (ap (λ z. n *ℤ z) (sym hm) ∙ sym (times_assoc n k (pos g)))
    ∙ times_pos (n *ℤ k) g (c * e)
    ∙ ap (λ z. (n *ℤ k) *ℤ pos z) (sizes c e g ∙ ap (λ z. z * e) hd)
  where
    sizes : (c e g : ℕ) → g * (c * e) ≡ c * g * e
    sizes c e g = omega arith

-- a lane times a number, of which a common divisor with the denominator is cut
cut_lane : (n k : ℤ) (d c g : ℕ) (by : Number) → Fits n d → k *ℤ pos g ≡ by.numerator → c * g ≡ d → Fits (n *ℤ k) (c * by.denominator) →
    product_of (lane_of d n) by ≡ Ok (lane_of (c * by.denominator) (n *ℤ k))
unfolding product_of
cut_lane n k d c g by hn hm hd fits =
    let x = lane_reduces n d hn in
    number_of_same _ (pair (n *ℤ k) (c * by.denominator)) (some_product _ _ (lane_of d n).lowest.positive by.lowest.positive) fits.positive
    (same_through (ratio_product (ratio_of (lane_of d n)) (ratio_of by)) (pair (n *ℤ by.numerator) (d * by.denominator)) (pair (n *ℤ k) (c * by.denominator)) (some_product _ _ hn.positive by.lowest.positive)
    (same_product (ratio_of (lane_of d n)) (ratio_of by) n by.numerator d by.denominator x.same refl)
    (same_cut n by.numerator k d c by.denominator g hm hd))
    ∙ lane_is _ (c * by.denominator) fits

-- a vector times one number
pub record MakesEach (v : Number) (d l c : ℕ) (ns cs : List ℤ) : Type 0 where
  pub vector : IsVector l c cs
  pub each : IsOfEach (λ x. product_of x v) (lanes_of d ns) (lanes_of l cs)

pub product_uniform : (v : Number) (d a c g l b : ℕ) (k : ℤ) (ns cs : List ℤ) → IsVector d a ns → k *ℤ pos g ≡ v.numerator → c * g ≡ d → 0 < c → l ≡ c * v.denominator → l < 2 ^ 63 → b ≡ a * unsigned_abs k → b < 2 ^ 63 →
    IsMade ◌*ℤ◌ ns (λ _. k) cs → MakesEach v d l b ns cs
product_uniform v d a c g l b k ns cs hn hm hd some is below bound fits made = record {
  vector = record { positive = positive; below = below; bound_below = fits; bounded = λ i lt. sized i (omega (arith, made.lanes)) };
  each = record { lanes = count l cs ∙ made.lanes ∙ sym (count d ns); each = each };
}
  where
    positive : 0 < l
    positive = rw is (some_product c v.denominator some v.lowest.positive)

    sized : (i : ℕ) → i < length ns → unsigned_abs (at cs i) ≤ b
    sized i lt = rw (made.each i lt, bound) (product_size (at ns i) k a (unsigned_abs k) (hn.bounded i lt) (omega arith))

    here : (i : ℕ) → i < length ns → product_of (lane_of d (at ns i)) v ≡ Ok (lane_of l (at cs i))
    here i lt =
        let s = sized i lt in
        let h : Fits (at ns i) d = record { positive = hn.positive; below = hn.below; above = let p = hn.bounded i lt in let q = hn.bound_below in omega arith } in
        let f : Fits (at ns i *ℤ k) (c * v.denominator) = rw (← made.each i lt, ← is) (record { positive = positive; below = below; above = omega arith }) in
        cut_lane (at ns i) k d c g v h hm hd f ∙ ap (λ z. Ok (lane_of z (at ns i *ℤ k))) (sym is) ∙ ap (λ z. Ok (lane_of l z)) (sym (made.each i lt))

    each : (i : ℕ) → i < length (lanes_of d ns) → product_of (lane (lanes_of d ns) i) v ≡ Ok (lane (lanes_of l cs) i)
    each i lt =
        let p : i < length ns = omega (arith, count d ns) in
        let q : i < length cs = omega (arith, made.lanes) in
        rw (lane_at d ns i p, lane_at l cs i q) (here i p)

over_neg : (n : ℤ) (k : ℕ) → 0 < k → over n (neg_ℤ (pos k)) ≡ pair (neg_ℤ n) k
over_neg n zero p = absurd (omega arith)
over_neg n (suc k) p = refl

crossed : (x z r : ℤ) (k d e : ℕ) → r *ℤ pos k ≡ z *ℤ pos e → (x *ℤ z) *ℤ pos (d * e) ≡ (x *ℤ r) *ℤ pos (k * d)
crossed x z r k d e h =
    ap (λ n. (x *ℤ z) *ℤ pos n) (mul_comm d e)
    ∙ sym (times_pos (x *ℤ z) e d)
    ∙ ap (λ n. n *ℤ pos d) (times_assoc x z (pos e) ∙ ap (λ n. x *ℤ n) (sym h) ∙ sym (times_assoc x r (pos k)))
    ∙ times_pos (x *ℤ r) k d

neg_out : (x : ℤ) (q : ℕ) → neg_ℤ (x *ℤ pos q) ≡ x *ℤ neg_ℤ (pos q)
neg_out x q = sym (*ℤ_comm x (neg_ℤ (pos q)) ∙ neg-times (pos q) x ∙ ap neg_ℤ (*ℤ_comm (pos q) x))

-- x over p / q is x times r, where r is 1 over p / q
inverse : (x r : Ratio) (p : ℤ) (q : ℕ) → 0 < x.denominator → 0 < r.denominator → Reduces (over (pos 1 *ℤ pos q) (p *ℤ pos 1)) r → number_of (over (x.numerator *ℤ pos q) (p *ℤ pos x.denominator)) ≡ number_of (ratio_product x r)
inverse x r (pos m) q xs rs h =
    let some : 0 < m * 1 = h.some in
    let same : r.numerator *ℤ pos m ≡ pos q *ℤ pos r.denominator = ap (λ z. r.numerator *ℤ pos z) (sym (times_one m)) ∙ h.same ∙ ap (λ z. pos z *ℤ pos r.denominator) (one_times q) in
    number_of_same (pair (x.numerator *ℤ pos q) (m * x.denominator)) (ratio_product x r) (some_product m x.denominator (omega arith) xs) (some_product x.denominator r.denominator xs rs)
    (crossed x.numerator (pos q) r.numerator m x.denominator r.denominator same)
  where
    times_one : (n : ℕ) → n * 1 ≡ n
    times_one n = omega arith

    one_times : (n : ℕ) → 1 * n ≡ n
    one_times n = omega arith
inverse x r (negsuc m) q xs rs h =
    let b : over (pos 1 *ℤ pos q) (negsuc m *ℤ pos 1) ≡ pair (neg_ℤ (pos (1 * q))) (suc m * 1) = over_neg (pos (1 * q)) (suc m * 1) (omega arith) in
    let k : Reduces (pair (neg_ℤ (pos (1 * q))) (suc m * 1)) r = subst (λ z. Reduces z r) b h in
    let same : r.numerator *ℤ pos (suc m) ≡ neg_ℤ (pos q) *ℤ pos r.denominator = ap (λ z. r.numerator *ℤ pos z) (sym (times_one (suc m))) ∙ k.same ∙ ap (λ z. neg_ℤ (pos z) *ℤ pos r.denominator) (one_times q) in
    ap number_of (over_neg (x.numerator *ℤ pos q) (suc m * x.denominator) (some_product (suc m) x.denominator (omega arith) xs))
    ∙ number_of_same (pair (neg_ℤ (x.numerator *ℤ pos q)) (suc m * x.denominator)) (ratio_product x r) (some_product (suc m) x.denominator (omega arith) xs) (some_product x.denominator r.denominator xs rs)
    (ap (λ z. z *ℤ pos (x.denominator * r.denominator)) (neg_out x.numerator q) ∙ crossed x.numerator (neg_ℤ (pos q)) r.numerator (suc m) x.denominator r.denominator same)
  where
    times_one : (n : ℕ) → n * 1 ≡ n
    times_one n = omega arith

    one_times : (n : ℕ) → 1 * n ≡ n
    one_times n = omega arith

pub quotient_is : (x by r : Number) → quotient_of one_number by ≡ Ok r → quotient_of x by ≡ product_of x r
unfolding quotient_of product_of
quotient_is x by r h =
    inverse (ratio_of x) (ratio_of r) by.numerator by.denominator x.lowest.positive r.lowest.positive
    (subst (IsNumberOf (ratio_quotient (ratio_of one_number) (ratio_of by))) h (is_number_of (ratio_quotient (ratio_of one_number) (ratio_of by))))
