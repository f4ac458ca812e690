-- Sums over two denominators, which share g.
use Rattle.std.proofs.Common.{◌≡◌, ℕ, zero, suc, ◌+◌, ◌*◌, ◌-◌, ◌/◌, ◌<◌, ℤ, pos, negsuc, neg_ℤ, ◌+ℤ◌, ◌*ℤ◌, unsigned_abs, Bool, arith, ap, sym, ◌∙◌, refl, inl, inr, ◌⊎◌}
use borrow.Author.Differences.{up, down, product_is}
use Rattle.std.specs.Int.{◌∣◌, IsGcd}
use Rattle.std.proofs.lemmas.Bool.{cases_lt}
use Rattle.std.proofs.lemmas.Int.{ints, unsigned_abs-mul}
use Rattle.std.proofs.lemmas.Nat.Gcd.{IsGcd-swap, dvd_trans}
use Rattle.std.proofs.Math.Nat.{mul-div_cancel', mul-le-mul_left, dvd-add, dvd-sub, dvd-mul_left_of_dvd, zero-mul}
use Rattle.std.proofs.Math.IntN.{neg_ℤ-neg_ℤ}
use Rattle.fisca_num.specs.Rational.{IsLowest, signed}
use Rattle.fisca_num.specs.Number.{Number, negation_of}
use Rattle.fisca_num.specs.Lowest.{IsCoprime, euclid, coprime_from_gcd}
use Rattle.fisca_num.specs.Reduced.{quotient_pos}
use Rattle.fisca_num.specs.Operations.{number_of, sum_of, difference_of}
use Rattle.fisca_num.proofs.Alike.{number_of_same, from_sides}
use Rattle.fisca_num.proofs.Coprime.{coprime_swap, coprime_product, part_divides, gcd_beyond, product_over}
use Rattle.fisca_num.proofs.Cut.{cut_lowest, cut_same}

-- ---- a common divisor of a sum and of one part divides the other part

sizes_of_sum : (x y : ℤ) → (unsigned_abs (x +ℤ y) ≡ unsigned_abs x + unsigned_abs y) ⊎ ((unsigned_abs x ≡ unsigned_abs (x +ℤ y) + unsigned_abs y) ⊎ (unsigned_abs x ≡ unsigned_abs y - unsigned_abs (x +ℤ y)))
sizes_of_sum (pos x) (pos y) = inl (omega (arith, ints))
sizes_of_sum (negsuc x) (negsuc y) = inl (omega (arith, ints))
sizes_of_sum (pos x) (negsuc y) = elim (cases_lt x (y + 1)) [ inl h ↦ inr (inr (omega (arith, ints))) | inr h ↦ inr (inl (omega (arith, ints))) ]
sizes_of_sum (negsuc x) (pos y) = elim (cases_lt (x + 1) y) [ inl h ↦ inr (inr (omega (arith, ints))) | inr h ↦ inr (inl (omega (arith, ints))) ]

other_part : (k : ℕ) (x y : ℤ) → k ∣ unsigned_abs (x +ℤ y) → k ∣ unsigned_abs y → k ∣ unsigned_abs x
other_part k x y p q = elim (sizes_of_sum x y) [
  | inl e ↦ let d : k ∣ unsigned_abs (x +ℤ y) - unsigned_abs y = dvd-sub k p q in let f : unsigned_abs (x +ℤ y) - unsigned_abs y ≡ unsigned_abs x = omega arith in rw f at d
  | inr o ↦ elim o [
    | inl e ↦ rw e (dvd-add k p q)
    | inr e ↦ rw e (dvd-sub k q p)
  ]
]

-- the sum is over left and right parts that share nothing
with_left : (n m : ℤ) (b left right : ℕ) → IsCoprime (unsigned_abs n) b → left ∣ b → IsCoprime left right → IsCoprime (unsigned_abs (n *ℤ pos right +ℤ m *ℤ pos left)) left
with_left n m b left right co part apart k p q =
    let second : k ∣ unsigned_abs (m *ℤ pos left) = rw (unsigned_abs-mul m (pos left)) (dvd-mul_left_of_dvd k q (unsigned_abs m)) in
    let first : k ∣ unsigned_abs n * right = rw (unsigned_abs-mul n (pos right)) at (other_part k (n *ℤ pos right) (m *ℤ pos left) p second) in
    apart k q (euclid k (unsigned_abs n) right (λ e s t. co e t (dvd_trans e s (dvd_trans k q part))) first)

commuted : (x y : ℤ) → unsigned_abs (x +ℤ y) ≡ unsigned_abs (y +ℤ x)
commuted x y = omega (arith, ints)

pub record IsSum (x y : Number) (g left right : ℕ) : Type 0 where
  pub gcd : IsGcd x.denominator y.denominator g
  pub left_is : left ≡ x.denominator / g
  pub right_is : right ≡ y.denominator / g

abbrev pub crossed_sum : Number → Number → ℕ → ℕ → ℤ
crossed_sum x y left right = x.numerator *ℤ pos right +ℤ y.numerator *ℤ pos left

pub left_some : (x y : Number) (g left right : ℕ) → IsSum x y g left right → 0 < left
left_some x y g left right s = rw s.left_is (quotient_pos _ _ _ (IsGcd-swap _ _ _ s.gcd) x.lowest.positive)

pub sum_only : (x y : Number) (g left right : ℕ) → IsSum x y g left right → IsCoprime (unsigned_abs (crossed_sum x y left right)) (left * (y.denominator / g))
sum_only x y g left right s =
    let apart : IsCoprime left right = rw (s.left_is, s.right_is) (coprime_from_gcd x.denominator y.denominator g s.gcd y.lowest.positive) in
    let left_part : left ∣ x.denominator = rw s.left_is (part_divides x.denominator g s.gcd.0) in
    let right_part : right ∣ y.denominator = rw s.right_is (part_divides y.denominator g s.gcd.1) in
    let one : IsCoprime (unsigned_abs (crossed_sum x y left right)) left = with_left x.numerator y.numerator x.denominator left right x.lowest.coprime left_part apart in
    let turned : IsCoprime (unsigned_abs (y.numerator *ℤ pos left +ℤ x.numerator *ℤ pos right)) right = with_left y.numerator x.numerator y.denominator right left y.lowest.coprime right_part (coprime_swap left right apart) in
    let two : IsCoprime (unsigned_abs (crossed_sum x y left right)) right = rw (commuted (x.numerator *ℤ pos right) (y.numerator *ℤ pos left)) turned in
    rw (← s.right_is) (coprime_swap _ _ (coprime_product left right _ (coprime_swap _ _ one) (coprime_swap _ _ two)))

spread : (ut dt us ds un dn um dm p q g : ℕ) → ut + dn * q + dm * p ≡ dt + un * q + um * p → us + dn * (g * q) + dm * (g * p) ≡ ds + un * (g * q) + um * (g * p) →
    ut * (g * p * (g * q)) + ds * (p * (g * q)) ≡ us * (p * (g * q)) + dt * (g * p * (g * q))
spread ut dt us ds un dn um dm p q g h k = omega (arith, ap (λ z. z * (g * p * (g * q))) h, ap (λ z. z * (p * (g * q))) k)

balanced : (ut dt us ds un dn um dm p q g b d : ℕ) → g * p ≡ b → g * q ≡ d → ut + dn * q + dm * p ≡ dt + un * q + um * p → us + dn * d + dm * b ≡ ds + un * d + um * b → ut * (b * d) + ds * (p * d) ≡ us * (p * d) + dt * (b * d)
balanced ut dt us ds un dn um dm p q g b d hb hd h k = rw (← hb, ← hd) (spread ut dt us ds un dn um dm p q g h (rw (← hb, ← hd) at k))

sum_is : (x y : ℤ) → up (x +ℤ y) + down x + down y ≡ down (x +ℤ y) + up x + up y
sum_is x y = omega (arith, ints)

sides_of : (n m : ℤ) (p q : ℕ) → up (n *ℤ pos q +ℤ m *ℤ pos p) + down n * q + down m * p ≡ down (n *ℤ pos q +ℤ m *ℤ pos p) + up n * q + up m * p
sides_of n m p q = omega (arith, sum_is (n *ℤ pos q) (m *ℤ pos p), product_is n (pos q), product_is m (pos p))

some_product : (m n : ℕ) → 0 < m → 0 < n → 0 < m * n
some_product m n hm hn = omega (arith, mul-le-mul_left m hn)

pub sum_number : (x y : Number) (g left right : ℕ) → IsSum x y g left right → number_of (record { numerator = crossed_sum x y left right; denominator = left * y.denominator }) ≡ sum_of x y
unfolding sum_of
sum_number x y g left right s =
    let b : g * left ≡ x.denominator = ap (λ z. g * z) s.left_is ∙ mul-div_cancel' g s.gcd.0 in
    let d : g * right ≡ y.denominator = ap (λ z. g * z) s.right_is ∙ mul-div_cancel' g s.gcd.1 in
    number_of_same _ _ (some_product _ _ (left_some x y g left right s) y.lowest.positive) (some_product _ _ x.lowest.positive y.lowest.positive)
    (from_sides (crossed_sum x y left right) (crossed_sum x y x.denominator y.denominator) (x.denominator * y.denominator) (left * y.denominator)
    (balanced (up (crossed_sum x y left right)) (down (crossed_sum x y left right)) (up (crossed_sum x y x.denominator y.denominator)) (down (crossed_sum x y x.denominator y.denominator))
    (up x.numerator) (down x.numerator) (up y.numerator) (down y.numerator) left right g x.denominator y.denominator b d
    (sides_of x.numerator y.numerator left right) (sides_of x.numerator y.numerator x.denominator y.denominator)))

-- over one denominator
pub like_number : (x y : Number) → x.denominator ≡ y.denominator → number_of (record { numerator = x.numerator +ℤ y.numerator; denominator = x.denominator }) ≡ sum_of x y
unfolding sum_of
like_number x y e = number_of_same _ _ x.lowest.positive (some_product _ _ x.lowest.positive y.lowest.positive)
    (from_sides (x.numerator +ℤ y.numerator) (crossed_sum x y x.denominator y.denominator) (x.denominator * y.denominator) x.denominator
    (like (up (x.numerator +ℤ y.numerator)) (down (x.numerator +ℤ y.numerator)) (up (crossed_sum x y x.denominator y.denominator)) (down (crossed_sum x y x.denominator y.denominator))
    (up x.numerator) (down x.numerator) (up y.numerator) (down y.numerator) x.denominator y.denominator e (sum_is x.numerator y.numerator) (sides_of x.numerator y.numerator x.denominator y.denominator)))
  where
    like : (ut dt us ds un dn um dm b d : ℕ) → b ≡ d → ut + dn + dm ≡ dt + un + um → us + dn * d + dm * b ≡ ds + un * d + um * b → ut * (b * d) + ds * b ≡ us * b + dt * (b * d)
    like ut dt us ds un dn um dm b d e h k = rw (← e) (omega (arith, ap (λ z. z * (b * b)) h, ap (λ z. z * b) (rw (← e) at k)))

-- ---- the sum is divided by what it shares with g

pub shared_gcd : (s left right shared k : ℕ) → shared ∣ right → IsCoprime s (left * (right / shared)) → IsGcd s shared k → IsGcd s (left * right) k
shared_gcd s left right shared k part co h =
    let whole : left * (right / shared) * shared ≡ left * right = omega (arith, ap (λ z. left * z) (mul-div_cancel' shared part)) in
    rw whole at (gcd_beyond s (left * (right / shared)) shared k co h)

pub shared_lowest : (b : Bool) (s left right shared k : ℕ) → 0 < left → 0 < right → shared ∣ right → IsCoprime s (left * (right / shared)) → IsGcd s shared k → 0 < k → IsLowest (signed b (s / k)) (left * (right / k))
shared_lowest b s left right shared k hl hr part co h some =
    rw (← product_over left right k some (dvd_trans k h.1 part)) (cut_lowest b s (left * right) k (shared_gcd s left right shared k part co h) (some_product left right hl hr))

pub shared_same : (b : Bool) (s left right shared k : ℕ) → 0 < left → 0 < right → shared ∣ right → IsCoprime s (left * (right / shared)) → IsGcd s shared k → 0 < k →
    number_of (record { numerator = signed b (s / k); denominator = left * (right / k) }) ≡ number_of (record { numerator = signed b s; denominator = left * right })
shared_same b s left right shared k hl hr part co h some =
    rw (← product_over left right k some (dvd_trans k h.1 part)) (cut_same b s (left * right) k (shared_gcd s left right shared k part co h) (some_product left right hl hr))

-- ---- differences

negated_product : (y : ℤ) (d : ℕ) → neg_ℤ y *ℤ pos d ≡ neg_ℤ (y *ℤ pos d)
negated_product (pos zero) d = ap pos (zero-mul d) ∙ ap (λ z. neg_ℤ (pos z)) (sym (zero-mul d))
negated_product (pos (suc n)) d = refl
negated_product (negsuc n) d = sym (neg_ℤ-neg_ℤ (pos (suc n * d)))

pub difference_is : (x y : Number) → difference_of x y ≡ sum_of x (negation_of y)
unfolding sum_of difference_of
difference_is x y = ap (λ z. number_of (record { numerator = x.numerator *ℤ pos y.denominator +ℤ z; denominator = x.denominator * y.denominator })) (sym (negated_product y.numerator x.denominator))
