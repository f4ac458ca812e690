-- Numbers over one denominator.
use Rattle.std.proofs.Common.{◌≡◌, ℕ, zero, suc, ◌+◌, ◌*◌, ◌<◌, ℤ, pos, ◌+ℤ◌, ◌-ℤ◌, ◌*ℤ◌, neg_ℤ, arith, ap, sym, ◌∙◌, subst}
use Rattle.std.specs.Prelude.{Ok}
use Rattle.std.proofs.Math.Nat.{eq_of_mul-eq-mul_left}
use borrow.Author.Differences.{up, down, product_is, same_in, same_out, sum_is_lem, neg_is}
use Rattle.fisca_num.specs.Rational.{Reduces, ratio_difference}
use Rattle.fisca_num.specs.Number.{Number, ratio_of}
use Rattle.fisca_num.specs.Operations.{number_of, difference_of, is_number_of}
use Rattle.fisca_num.specs.Reduced.{cancel_right}
use Rattle.fisca_num.specs.Value.{IsNumberOf}
use Rattle.fisca_inputs.specs.Steps.Sharing.{part_ratio}
use Rattle.fisca_inputs.specs.Totals.{IsOver}

-- two fractions over natural parts
abbrev Same : ℕ → ℕ → ℕ → ℕ → ℕ → ℕ → Type 0
Same u w d p q e = u * e + q * d ≡ p * d + w * e

parts_out : (x y : ℤ) (d e : ℕ) → x *ℤ pos e ≡ y *ℤ pos d → Same (up x) (down x) d (up y) (down y) e
parts_out x y d e h =
    let s = same_out (x *ℤ pos e) (y *ℤ pos d) h in
    let p = product_is x (pos e) in
    let q = product_is y (pos d) in
    omega (arith, s.0, s.1, p.0, p.1, q.0, q.1)

parts_in : (x y : ℤ) (d e : ℕ) → Same (up x) (down x) d (up y) (down y) e → x *ℤ pos e ≡ y *ℤ pos d
parts_in x y d e h =
    let p = product_is x (pos e) in
    let q = product_is y (pos d) in
    same_in (x *ℤ pos e) (y *ℤ pos d) (omega (arith, p.0, p.1, q.0, q.1))

-- a number that is r and m together, over one denominator
together : (ua wa da um wm dm ur wr dr p q s t d : ℕ) → 0 < dm → 0 < dr
    → ur * (da * dm) + (wa * dm + um * da) * dr ≡ (ua * dm + wm * da) * dr + wr * (da * dm)
    → Same ur wr dr p q d → Same um wm dm s t d → Same ua wa da (p + s) (q + t) d
together ua wa da um wm dm ur wr dr p q s t d hm hr difference rest less =
    let a = ap (λ x. d * x) difference in
    let b = ap (λ x. (da * dm) * x) rest in
    let c = ap (λ x. (da * dr) * x) less in
    let all : (dm * dr) * (ua * d + (q + t) * da) ≡ (dm * dr) * ((p + s) * da + wa * d) = omega (arith, a, b, c) in
    eq_of_mul-eq-mul_left dm hm _ _ (eq_of_mul-eq-mul_left dr hr _ _ (omega (arith, all)))

-- the first of two numbers is their difference and the second together
pub difference_over : (a m r : Number) (d : ℕ) (x y : ℤ) → difference_of a m ≡ Ok r → IsOver d r x → IsOver d m y → IsOver d a (y +ℤ x)
unfolding difference_of
difference_over a m r d x y e over_r over_m =
    let left = a.numerator *ℤ pos m.denominator in
    let right = m.numerator *ℤ pos a.denominator in
    let reduces : Reduces (ratio_difference (ratio_of a) (ratio_of m)) (ratio_of r) =
    subst (IsNumberOf (ratio_difference (ratio_of a) (ratio_of m))) e (is_number_of (ratio_difference (ratio_of a) (ratio_of m))) in
    let same = parts_out r.numerator (left -ℤ right) r.denominator (a.denominator * m.denominator) reduces.same in
    let p = product_is a.numerator (pos m.denominator) in
    let q = product_is m.numerator (pos a.denominator) in
    let s = sum_is_lem left (neg_ℤ right) in
    let n = neg_is right in
    let less : up (left -ℤ right) + (down a.numerator * m.denominator + up m.numerator * a.denominator) ≡ down (left -ℤ right) + (up a.numerator * m.denominator + down m.numerator * a.denominator) =
    omega (arith, p.0, p.1, q.0, q.1, s, n.0, n.1) in
    let times = ap (λ k. k * r.denominator) less in
    let t = sum_is_lem y x in
    let all = together (up a.numerator) (down a.numerator) a.denominator (up m.numerator) (down m.numerator) m.denominator (up r.numerator) (down r.numerator) r.denominator
    (up x) (down x) (up y) (down y) d m.lowest.positive r.lowest.positive (omega (arith, same, times))
    (parts_out r.numerator x r.denominator d over_r) (parts_out m.numerator y m.denominator d over_m) in
    let more = ap (λ k. k * a.denominator) t in
    parts_in a.numerator (y +ℤ x) a.denominator d (omega (arith, all, more))

-- a number over so many equal parts of it
parts_together : (ur wr dr us ws ds p q d count : ℕ) → 0 < ds → us * (dr * count) + wr * ds ≡ ur * ds + ws * (dr * count) → Same us ws ds p q d
    → Same ur wr dr (count * p) (count * q) d
parts_together ur wr dr us ws ds p q d count some same over =
    let a = ap (λ x. d * x) same in
    let b = ap (λ x. (dr * count) * x) over in
    eq_of_mul-eq-mul_left ds some _ _ (omega (arith, a, b))

pub part_over : (r s : Number) (count d : ℕ) (z : ℤ) → number_of (part_ratio r count) ≡ Ok s → IsOver d s z → IsOver d r (pos count *ℤ z)
part_over r s count d z e over_s =
    let reduces : Reduces (part_ratio r count) (ratio_of s) = subst (IsNumberOf (part_ratio r count)) e (is_number_of (part_ratio r count)) in
    let same = parts_out s.numerator r.numerator s.denominator (r.denominator * count) reduces.same in
    let all = parts_together (up r.numerator) (down r.numerator) r.denominator (up s.numerator) (down s.numerator) s.denominator (up z) (down z) d count
    s.lowest.positive same (parts_out s.numerator z s.denominator d over_s) in
    let p = product_is (pos count) z in
    let more = ap (λ k. k * r.denominator) p.0 in
    let less = ap (λ k. k * r.denominator) p.1 in
    parts_in r.numerator (pos count *ℤ z) r.denominator d (omega (arith, all, more, less))

-- a number is one over a denominator at most
pub over_once : (n : Number) (d : ℕ) (y z : ℤ) → IsOver d n y → IsOver d n z → y ≡ z
over_once n d y z a b = cancel_right n.denominator n.lowest.positive y z (sym a ∙ b)

abbrev pub times : ℕ → ℤ → ℤ
times zero z = pos 0
times (suc n) z = z +ℤ times n z

pub times_is : (n : ℕ) (z : ℤ) → times n z ≡ pos n *ℤ z
times_is zero z = let p = product_is (pos 0) z in same_in (pos 0) (pos 0 *ℤ z) (omega (arith, p.0, p.1))
times_is (suc n) z =
    let p = product_is (pos n) z in
    let q = product_is (pos (suc n)) z in
    let s = sum_is_lem z (pos n *ℤ z) in
    ap (λ y. z +ℤ y) (times_is n z) ∙ same_in (z +ℤ pos n *ℤ z) (pos (suc n) *ℤ z) (omega (arith, p.0, p.1, q.0, q.1, s))
