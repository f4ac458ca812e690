-- Rounding to decimal places.
use Rattle.std.proofs.Common.{◌≡◌, ℕ, zero, suc, ◌+◌, ◌*◌, ◌^◌, ◌<◌, ◌≤◌, ℤ, pos, negsuc, neg_ℤ, ◌*ℤ◌, ◌≤ℤ◌, ◌<ℤ◌, unsigned_abs, arith, ap, sym, ◌∙◌, refl, subst, inl, inr, lit<, Result, Ok, Err}
use Rattle.std.specs.Int.{int_div_euclid}
use borrow.Author.Differences.{up, down, product_is}
use Rattle.std.proofs.lemmas.Bool.{cases_lt}
use Rattle.std.proofs.lemmas.Int.{ints}
use Rattle.std.proofs.Math.IntN.{*ℤ-one, neg_ℤ-neg_ℤ}
use Rattle.std.proofs.Math.Nat.{one-mul, div-one, div-le_self, mul-le-mul_left, mul-lt-mul_of_pos_left}
use Rattle.fisca_num.specs.declared.faults.NumFault.{NumFault}
use Rattle.fisca_num.specs.declared.faults.NumFault.TheVariants.{TooWide, ZeroDivisor, NotANumber, Memory}
use Rattle.fisca_num.specs.Digits.{ten_pos}
use Rattle.fisca_num.specs.Integers.{times_swap, times_pos}
use Rattle.fisca_num.specs.Nearest.{IsAtMost}
use Rattle.fisca_num.specs.Number.{Number, ratio_of, negation_of}
use Rattle.fisca_num.specs.Operations.{number_of, number_over, is_number_of, only_number_of}
use Rattle.fisca_num.specs.Rational.{Ratio, IsSame, IsTooWide, Reduces, over}
use Rattle.fisca_num.specs.Rounding.{floor_of, ceil_of, round_of, nearest, times_ten_to, rounded_ratio, rounded_to, number_of_whole}
use Rattle.fisca_num.specs.Value.{IsFaultOf, IsNumberOf}
use Rattle.fisca_num.proofs.Alike.{number_of_same}
use Rattle.fisca_num.proofs.Cut.{itself}
use Rattle.fisca_num.proofs.Near.{at_most_parts, nearest_of, nearest_rises, nearest_whole, size_nearest}

times_one : (k : ℤ) → k *ℤ pos 1 ≡ k
unfolding lib.IntN.one
times_one k = *ℤ-one k

some_times : (d t : ℕ) → 0 < d → 0 < t → 0 < d * t
some_times d t hd ht = omega (arith, hd, mul-le-mul_left d ht)

times_some : (k : ℤ) (r : Ratio) → 0 < r.denominator → 0 < (times_ten_to k r).denominator
times_some (pos k) r some = some
times_some (negsuc k) r some = some_times r.denominator (10 ^ suc k) some (ten_pos (suc k))

-- ---- the two bodies

part_is : (p : ℕ) (v : Number) → number_of (record { numerator = nearest (times_ten_to (pos p) (ratio_of v)); denominator = 10 ^ p }) ≡ rounded_to (pos p) v
unfolding rounded_to
part_is zero v = ap (λ z. number_of (record { numerator = z; denominator = 1 })) (sym (times_one (nearest (times_ten_to (pos 0) (ratio_of v)))))
part_is (suc p) v = ap (λ z. number_of (record { numerator = nearest (times_ten_to (pos (suc p)) (ratio_of v)); denominator = z })) (sym (one-mul (10 ^ suc p)))

multiple_is : (p : ℕ) (v : Number) → number_of (record { numerator = nearest (record { numerator = v.numerator; denominator = v.denominator * 10 ^ suc p }) *ℤ pos (10 ^ suc p); denominator = 1 }) ≡ rounded_to (negsuc p) v
unfolding rounded_to
multiple_is p v = refl

-- the code's unit is 10 ^ |places|
pub part_to : (places : ℤ) (v : Number) (unit : ℕ) (o : Result Number NumFault) → pos 0 ≤ℤ places → unit ≡ 10 ^ unsigned_abs places → o ≡ number_of (record { numerator = nearest (record { numerator = v.numerator *ℤ pos unit; denominator = v.denominator }); denominator = unit }) → o ≡ rounded_to places v
part_to (pos p) v unit o h e q = q ∙ ap (λ u. number_of (record { numerator = nearest (record { numerator = v.numerator *ℤ pos u; denominator = v.denominator }); denominator = u })) e ∙ part_is p v
part_to (negsuc p) v unit o h e q = absurd (omega (arith, ints))

pub multiple_to : (places : ℤ) (v : Number) (unit : ℕ) (o : Result Number NumFault) → places <ℤ pos 0 → unit ≡ 10 ^ unsigned_abs places → o ≡ number_of (record { numerator = nearest (record { numerator = v.numerator; denominator = v.denominator * unit }) *ℤ pos unit; denominator = 1 }) → o ≡ rounded_to places v
multiple_to (pos p) v unit o h e q = absurd (omega (arith, ints))
multiple_to (negsuc p) v unit o h e q = q ∙ ap (λ u. number_of (record { numerator = nearest (record { numerator = v.numerator; denominator = v.denominator * u }) *ℤ pos u; denominator = 1 })) e ∙ multiple_is p v

-- ---- rounding rises with what is rounded

le_times : (x y : ℤ) (t : ℕ) → x ≤ℤ y → (x *ℤ pos t) ≤ℤ (y *ℤ pos t)
le_times x y t h =
    let p = product_is x (pos t) in
    let q = product_is y (pos t) in
    let parts : up x + down y ≤ up y + down x = omega (arith, ints, h) in
    omega (arith, ints, p, q, mul-le-mul_left t parts)

times_rises : (k : ℤ) (r s : Ratio) → IsAtMost r s → IsAtMost (times_ten_to k r) (times_ten_to k s)
times_rises (pos k) r s h = rw (times_swap r.numerator (pos (10 ^ k)) (pos s.denominator), times_swap s.numerator (pos (10 ^ k)) (pos r.denominator)) (le_times _ _ (10 ^ k) h)
times_rises (negsuc k) r s h = rw (← times_pos r.numerator s.denominator (10 ^ suc k), ← times_pos s.numerator r.denominator (10 ^ suc k)) (le_times _ _ (10 ^ suc k) h)

rounded_rises : (places : ℤ) (v w : Number) → IsAtMost (ratio_of v) (ratio_of w) → IsAtMost (rounded_ratio places v) (rounded_ratio places w)
rounded_rises places v w h =
    let r = times_ten_to places (ratio_of v) in
    let s = times_ten_to places (ratio_of w) in
    let hr : 0 < r.denominator = times_some places (ratio_of v) v.lowest.positive in
    let hs : 0 < s.denominator = times_some places (ratio_of w) w.lowest.positive in
    times_rises (neg_ℤ places) (over (nearest r) (pos 1)) (over (nearest s) (pos 1)) (le_times (nearest r) (nearest s) 1 (nearest_rises r s (nearest r) (nearest s) hr hs (times_rises places (ratio_of v) (ratio_of w) h) (nearest_of r hr) (nearest_of s hs)))

through_most : (au ad ru rd su sd bu bd a r s b : ℕ) → 0 < r → 0 < s → au * r + rd * a ≡ ru * a + ad * r → ru * s + sd * r ≤ su * r + rd * s → bu * s + sd * b ≡ su * b + bd * s → au * b + bd * a ≤ bu * a + ad * b
through_most au ad ru rd su sd bu bd a r s b hr hs h le k =
    elim (cases_lt (bu * a + ad * b) (au * b + bd * a)) [
      | inl far ↦ absurd (omega (arith, mul-lt-mul_of_pos_left far (some_times r s hr hs), ap (λ z. z * (b * s)) h, mul-le-mul_left (a * b) le, ap (λ z. z * (r * a)) k))
      | inr near ↦ near
    ]

same_parts : (x y : ℤ) (d e : ℕ) → x *ℤ pos d ≡ y *ℤ pos e → up x * d + down y * e ≡ up y * e + down x * d
same_parts x y d e h = omega (arith, product_is x (pos d), product_is y (pos e), ap up h, ap down h)

most_in : (n m : ℤ) (d e : ℕ) → up n * e + down m * d ≤ up m * d + down n * e → (n *ℤ pos e) ≤ℤ (m *ℤ pos d)
most_in n m d e h = omega (arith, ints, h, product_is n (pos e), product_is m (pos d))

same_rises : (a r s b : Ratio) → 0 < r.denominator → 0 < s.denominator → IsSame a r → IsAtMost r s → IsSame b s → IsAtMost a b
same_rises a r s b hr hs h le k = most_in a.numerator b.numerator a.denominator b.denominator (through_most _ _ _ _ _ _ _ _ a.denominator r.denominator s.denominator b.denominator hr hs
    (same_parts a.numerator r.numerator r.denominator a.denominator h) (at_most_parts r.numerator s.numerator r.denominator s.denominator le) (same_parts b.numerator s.numerator s.denominator b.denominator k))

rounded_some : (places : ℤ) (v : Number) → 0 < (rounded_ratio places v).denominator
rounded_some places v = times_some (neg_ℤ places) (over (nearest (times_ten_to places (ratio_of v))) (pos 1)) (lit< tt)

is_rounded : (places : ℤ) (v : Number) → IsNumberOf (rounded_ratio places v) (rounded_to places v)
unfolding rounded_to
is_rounded places v = is_number_of (rounded_ratio places v)

reduced : (places : ℤ) (v a : Number) → rounded_to places v ≡ Ok a → Reduces (rounded_ratio places v) (ratio_of a)
reduced places v a e = subst (IsNumberOf (rounded_ratio places v)) e (is_rounded places v)

pub rounded_to_rises : (places : ℤ) (v w a b : Number) → IsAtMost (ratio_of v) (ratio_of w) → rounded_to places v ≡ Ok a → rounded_to places w ≡ Ok b → IsAtMost (ratio_of a) (ratio_of b)
rounded_to_rises places v w a b h e f =
    let x : Reduces (rounded_ratio places v) (ratio_of a) = reduced places v a e in
    let y : Reduces (rounded_ratio places w) (ratio_of b) = reduced places w b f in
    same_rises (ratio_of a) (rounded_ratio places v) (rounded_ratio places w) (ratio_of b) x.some y.some x.same (rounded_rises places v w h) y.same

-- ---- a fault is that the multiple is too wide

fault_is : (r : Ratio) (e : NumFault) → 0 < r.denominator → IsFaultOf r e → (e ≡ TooWide) × IsTooWide r
fault_is r TooWide some h = (refl, h)
fault_is r ZeroDivisor some h = absurd (omega (arith, some, h))
fault_is r NotANumber some h = absurd h
fault_is r Memory some h = absurd h

pub rounded_fault : (places : ℤ) (v : Number) (e : NumFault) → rounded_to places v ≡ Err e → (e ≡ TooWide) × IsTooWide (rounded_ratio places v)
rounded_fault places v e h = fault_is (rounded_ratio places v) e (rounded_some places v) (subst (IsNumberOf (rounded_ratio places v)) h (is_rounded places v))

-- ---- a multiple is kept

multiple_times : (places : ℤ) (w : Number) (k : ℤ) → IsSame (ratio_of w) (times_ten_to (neg_ℤ places) (over k (pos 1))) → (times_ten_to places (ratio_of w)).numerator ≡ k *ℤ pos (times_ten_to places (ratio_of w)).denominator
multiple_times (pos zero) w k h = h ∙ ap (λ z. z *ℤ pos w.denominator) (times_one k)
multiple_times (pos (suc p)) w k h = ap (λ z. w.numerator *ℤ pos z) (sym (one-mul (10 ^ suc p))) ∙ h
multiple_times (negsuc p) w k h = sym (times_one w.numerator) ∙ h ∙ times_swap k (pos (10 ^ suc p)) (pos w.denominator) ∙ times_pos k w.denominator (10 ^ suc p)

number_itself : (w : Number) → number_of (ratio_of w) ≡ Ok w
number_itself w = sym (only_number_of (ratio_of w) (Ok w) (itself (ratio_of w) w.lowest))

pub multiple_kept : (places : ℤ) (w : Number) (k : ℤ) → IsSame (ratio_of w) (times_ten_to (neg_ℤ places) (over k (pos 1))) → rounded_to places w ≡ Ok w
unfolding rounded_to
multiple_kept places w k h =
    let s = times_ten_to places (ratio_of w) in
    let some : 0 < s.denominator = times_some places (ratio_of w) w.lowest.positive in
    let back = times_ten_to (neg_ℤ places) (over k (pos 1)) in
    ap (λ z. number_of (times_ten_to (neg_ℤ places) (over z (pos 1)))) (nearest_whole s k some (multiple_times places w k h))
    ∙ number_of_same back (ratio_of w) (times_some (neg_ℤ places) (over k (pos 1)) (lit< tt)) w.lowest.positive (sym h)
    ∙ number_itself w

pub rounded_kept : (places : ℤ) (v w : Number) → rounded_to places v ≡ Ok w → rounded_to places w ≡ Ok w
rounded_kept places v w e =
    let x : Reduces (rounded_ratio places v) (ratio_of w) = reduced places v w e in
    multiple_kept places w (nearest (times_ten_to places (ratio_of v))) x.same

-- ---- whole numbers

size_floor : (n : ℤ) (d : ℕ) → 0 < d → unsigned_abs (int_div_euclid n (pos d)) ≤ unsigned_abs n
size_floor (pos n) d some = div-le_self n d
size_floor (negsuc n) d some = omega (arith, div-le_self n d)

size_opposite : (z : ℤ) → unsigned_abs (neg_ℤ z) ≡ unsigned_abs z
size_opposite z = omega (arith, ints)

pub floor_fits : (v : Number) → unsigned_abs (floor_of v) < 2 ^ 63
floor_fits v = let above = v.within.above in omega (arith, above, size_floor v.numerator v.denominator v.lowest.positive)

pub ceil_fits : (v : Number) → unsigned_abs (ceil_of v) < 2 ^ 63
ceil_fits v = rw (size_opposite (floor_of (negation_of v))) (floor_fits (negation_of v))

pub round_fits : (v : Number) → unsigned_abs (round_of v) < 2 ^ 63
round_fits v = let above = v.within.above in omega (arith, above, size_nearest (ratio_of v) v.lowest.positive)

-- to no places is to whole numbers
pub rounded_to_none : (v : Number) → rounded_to (pos 0) v ≡ number_of_whole (round_of v)
unfolding rounded_to number_of_whole number_over
rounded_to_none v = ap (λ z. number_of (record { numerator = z; denominator = 1 })) (times_one _ ∙ ap (λ z. nearest (record { numerator = z; denominator = v.denominator })) (times_one v.numerator))

-- whole numbers are kept
floor_over_one : (n : ℤ) → int_div_euclid n (pos 1) ≡ n
floor_over_one (pos n) = ap pos (div-one n)
floor_over_one (negsuc n) = ap negsuc (div-one n)

pub floor_stays : (v : Number) → v.denominator ≡ 1 → floor_of v ≡ v.numerator
floor_stays v e = ap (λ d. int_div_euclid v.numerator (pos d)) e ∙ floor_over_one v.numerator

pub ceil_stays : (v : Number) → v.denominator ≡ 1 → ceil_of v ≡ v.numerator
ceil_stays v e = ap neg_ℤ (floor_stays (negation_of v) e) ∙ neg_ℤ-neg_ℤ v.numerator

pub round_stays : (v : Number) → v.denominator ≡ 1 → round_of v ≡ v.numerator
round_stays v e = nearest_whole (ratio_of v) v.numerator v.lowest.positive (sym (ap (λ d. v.numerator *ℤ pos d) e ∙ times_one v.numerator))
