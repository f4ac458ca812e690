-- Lanes compare as their numerators do over one denominator.
use Rattle.std.proofs.Common.{◌≡◌, ℕ, ◌+◌, ◌*◌, ◌<◌, ℤ, pos, ◌*ℤ◌, arith, ap, sym, ◌∙◌, refl, Bool, true, false, not, cond, int_lt, Ok}
use borrow.Author.Differences.{up, down, product_is}
use Rattle.std.proofs.lemmas.Cmp.{ranked}
use Rattle.std.specs.Cmp.{nat_cmp_is}
use Rattle.std.specs.declared.cmp.Ordering.{Ordering}
use Rattle.std.specs.declared.cmp.Ordering.TheVariants.{Less, Equal, Greater}
use Rattle.std.specs.Ordering.{int_cmp, int_eq, nat_cmp, MatchOrdering, is_lt, is_gt, is_eq}
use Rattle.std.proofs.Math.Nat.{mul-lt-mul_of_pos_left, mul_comm}
use Rattle.fisca_num.specs.Number.{Number, number_cmp}
use Rattle.fisca_num.specs.Order.{int_cmp_by_parts}
use Rattle.fisca_vectors.specs.Numerators.{lane_of}
use Rattle.fisca_vectors.proofs.Level.{term}
use Rattle.fisca_vectors.proofs.Terms.{Fits, lane_reduces, some_product}

scaled : (r : Ordering) (d p q s t : ℕ) → 0 < d → s ≡ d * p → t ≡ d * q → MatchOrdering r (p < q) (p ≡ q) (q < p) → MatchOrdering r (s < t) (s ≡ t) (t < s)
scaled Less d p q s t some e f h = omega (arith, e, f, mul-lt-mul_of_pos_left h some)
scaled Equal d p q s t some e f h = e ∙ ap (λ z. d * z) h ∙ sym f
scaled Greater d p q s t some e f h = omega (arith, e, f, mul-lt-mul_of_pos_left h some)

part : (x y : ℤ) (k : ℕ) → up (x *ℤ pos k) + down (y *ℤ pos k) ≡ k * (up x + down y)
part x y k = omega (arith, product_is x (pos k), product_is y (pos k))

-- a positive factor keeps the order
scale_cmp : (x y : ℤ) (k : ℕ) → 0 < k → int_cmp x y ≡ int_cmp (x *ℤ pos k) (y *ℤ pos k)
scale_cmp x y k some =
    let p : ℕ = up x + down y in
    let q : ℕ = up y + down x in
    int_cmp_by_parts x y
    ∙ nat_cmp_is (up (x *ℤ pos k) + down (y *ℤ pos k)) (up (y *ℤ pos k) + down (x *ℤ pos k)) (nat_cmp p q) (scaled (nat_cmp p q) k p q _ _ some (part x y k) (part y x k) (ranked p q (nat_cmp p q) refl))
    ∙ sym (int_cmp_by_parts (x *ℤ pos k) (y *ℤ pos k))

pub cmp_lane : (n m : ℤ) (d e f g l : ℕ) → Fits n d → Fits m e → d * f ≡ l → e * g ≡ l → 0 < l → number_cmp (lane_of d n) (lane_of e m) ≡ int_cmp (n *ℤ pos f) (m *ℤ pos g)
cmp_lane n m d e f g l hn hm hl hr some =
    let v = lane_of d n in
    let w = lane_of e m in
    let x = lane_reduces n d hn in
    let y = lane_reduces m e hm in
    scale_cmp (v.numerator *ℤ pos w.denominator) (w.numerator *ℤ pos v.denominator) l some
    ∙ ap (λ z. int_cmp z ((w.numerator *ℤ pos v.denominator) *ℤ pos l)) (ap (λ z. (v.numerator *ℤ pos w.denominator) *ℤ pos z) (sym hl) ∙ term v.numerator n v.denominator d f w.denominator x.same)
    ∙ ap (λ z. int_cmp ((n *ℤ pos f) *ℤ pos (v.denominator * w.denominator)) z) (ap (λ z. (w.numerator *ℤ pos v.denominator) *ℤ pos z) (sym hr) ∙ term w.numerator m w.denominator e g v.denominator y.same ∙ ap (λ z. (m *ℤ pos g) *ℤ pos z) (mul_comm w.denominator v.denominator))
    ∙ sym (scale_cmp (n *ℤ pos f) (m *ℤ pos g) (v.denominator * w.denominator) (some_product _ _ v.lowest.positive w.lowest.positive))

below_by : (b c : Bool) → is_lt (cond b Less (cond c Greater Equal)) ≡ b
below_by true c = refl
below_by false true = refl
below_by false false = refl

pub lt_is : (x y : ℤ) → is_lt (int_cmp x y) ≡ int_lt x y
lt_is x y = below_by (int_lt x y) (int_lt y x)

pub below_lane : (n m : ℤ) (d e f g l : ℕ) → Fits n d → Fits m e → d * f ≡ l → e * g ≡ l → 0 < l → is_lt (number_cmp (lane_of d n) (lane_of e m)) ≡ int_lt (n *ℤ pos f) (m *ℤ pos g)
below_lane n m d e f g l hn hm hl hr some = ap is_lt (cmp_lane n m d e f g l hn hm hl hr some) ∙ lt_is (n *ℤ pos f) (m *ℤ pos g)
