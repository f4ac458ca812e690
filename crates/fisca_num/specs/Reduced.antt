-- What dividing by the greatest common divisor makes of a rational.
use Rattle.std.proofs.Common.{◌≡◌, ℕ, zero, suc, ◌*◌, ◌/◌, ◌<◌, ◌^◌, ℤ, pos, negsuc, neg_ℤ, ◌*ℤ◌, unsigned_abs, arith, ap, sym, ◌∙◌, refl}
use Rattle.std.specs.Int.{IsGcd}
use Rattle.std.proofs.lemmas.Int.{ints, unsigned_abs-mul}
use Rattle.std.proofs.Math.Nat.{mul-div_cancel', zero-mul, eq_of_mul-eq-mul_right, mul-le-mul_left}
use Rattle.fisca_num.specs.Rational.{Ratio, IsLowest, Reduces, IsTooWide}
use Rattle.fisca_num.specs.Lowest.{Divisor, divisor_of, coprime_from_gcd, reduced_is}

-- the size m with the sign of n
abbrev pub signed_like : ℤ → ℕ → ℤ
signed_like (pos n) m = pos m
signed_like (negsuc n) m = neg_ℤ (pos m)

pub size-signed_like : (n : ℤ) (m : ℕ) → unsigned_abs (signed_like n m) ≡ m
size-signed_like (pos k) m = refl
size-signed_like (negsuc k) m = omega (arith, ints)

pub neg_times : (m d : ℕ) → neg_ℤ (pos m) *ℤ pos d ≡ neg_ℤ (pos (m * d))
neg_times zero d = rw (zero-mul d) refl
neg_times (suc m) d = refl

pub same_signed : (n : ℤ) (m d e : ℕ) → m * d ≡ unsigned_abs n * e → signed_like n m *ℤ pos d ≡ n *ℤ pos e
same_signed (pos k) m d e h = ap pos h
same_signed (negsuc k) m d e h = neg_times m d ∙ ap (λ x. neg_ℤ (pos x)) h

pub divides_alike : (n d g : ℕ) → IsGcd n d g → 0 < d → (n / g) * d ≡ n * (d / g)
divides_alike n d g h some =
    let gd : g * (d / g) ≡ d = mul-div_cancel' g h.1 in
    let gn : g * (n / g) ≡ n = mul-div_cancel' g h.0 in
    omega (arith, ap (λ x. (n / g) * x) gd, ap (λ x. x * (d / g)) gn)

pub quotient_pos : (n d g : ℕ) → IsGcd n d g → 0 < d → 0 < d / g
quotient_pos n d g h some =
    let gd : g * (d / g) ≡ d = mul-div_cancel' g h.1 in
    grind (arith, gd)

-- n / d divided by the greatest common divisor g of its parts
abbrev pub divided : Ratio → ℕ → Ratio
divided r g = record {
  numerator = signed_like r.numerator (unsigned_abs r.numerator / g);
  denominator = r.denominator / g;
}

pub lowest_by_gcd : (r : Ratio) (g : ℕ) → IsGcd (unsigned_abs r.numerator) r.denominator g → 0 < r.denominator → IsLowest (divided r g).numerator (divided r g).denominator
lowest_by_gcd r g h some = record {
  positive = quotient_pos (unsigned_abs r.numerator) r.denominator g h some;
  coprime = rw (size-signed_like r.numerator (unsigned_abs r.numerator / g)) (coprime_from_gcd (unsigned_abs r.numerator) r.denominator g h some);
}

pub reduces_by_gcd : (r : Ratio) (g : ℕ) → IsGcd (unsigned_abs r.numerator) r.denominator g → 0 < r.denominator → Reduces r (divided r g)
reduces_by_gcd r g h some = record {
  some = some;
  same = same_signed r.numerator (unsigned_abs r.numerator / g) r.denominator (r.denominator / g) (divides_alike (unsigned_abs r.numerator) r.denominator g h some);
  lowest = lowest_by_gcd r g h some;
}

sizes_same : (p q : Ratio) → p.numerator *ℤ pos q.denominator ≡ q.numerator *ℤ pos p.denominator → unsigned_abs p.numerator * q.denominator ≡ unsigned_abs q.numerator * p.denominator
sizes_same p q h = sym (unsigned_abs-mul p.numerator (pos q.denominator)) ∙ ap unsigned_abs h ∙ unsigned_abs-mul q.numerator (pos p.denominator)

-- the parts of r in lowest terms are what its greatest common divisor leaves
pub parts_by_gcd : (r v : Ratio) (g : ℕ) → IsGcd (unsigned_abs r.numerator) r.denominator g → Reduces r v → (unsigned_abs v.numerator ≡ unsigned_abs r.numerator / g) × (v.denominator ≡ r.denominator / g)
parts_by_gcd r v g h x = reduced_is (unsigned_abs r.numerator) r.denominator g (unsigned_abs v.numerator) v.denominator h x.some x.lowest.coprime x.lowest.positive (sizes_same v r x.same)

below_zero : (m : ℕ) → 0 < m → (x : ℕ) → pos x ≡ neg_ℤ (pos m) → ⊥
below_zero m some x h = omega (arith, ints)

some_product : (x d : ℕ) → 0 < d → 0 < suc x * d
some_product x d some = omega (arith, mul-le-mul_left (suc x) some)

-- integers whose products by a positive number are equal are equal
pub cancel_right : (d : ℕ) → 0 < d → (x y : ℤ) → x *ℤ pos d ≡ y *ℤ pos d → x ≡ y
cancel_right d some (pos x) (pos y) h = ap pos (eq_of_mul-eq-mul_right d some x y (ap unsigned_abs h))
cancel_right d some (negsuc x) (negsuc y) h =
    let e : suc x * d ≡ suc y * d = sym (unsigned_abs-mul (negsuc x) (pos d)) ∙ ap unsigned_abs h ∙ unsigned_abs-mul (negsuc y) (pos d) in
    let f : suc x ≡ suc y = eq_of_mul-eq-mul_right d some (suc x) (suc y) e in
    omega (arith, ints)
cancel_right d some (pos x) (negsuc y) h = absurd (below_zero (suc y * d) (some_product y d some) (x * d) h)
cancel_right d some (negsuc x) (pos y) h = absurd (below_zero (suc x * d) (some_product x d some) (y * d) (sym h))

-- a rational has one pair in lowest terms
pub reduces_once : (r v w : Ratio) → Reduces r v → Reduces r w → (v.numerator ≡ w.numerator) × (v.denominator ≡ w.denominator)
reduces_once r v w x y =
    let z : Divisor (unsigned_abs r.numerator) r.denominator = divisor_of (unsigned_abs r.numerator) r.denominator in
    let p = parts_by_gcd r v z.gcd z.is x in
    let q = parts_by_gcd r w z.gcd z.is y in
    let e : v.denominator ≡ w.denominator = p.1 ∙ sym q.1 in
    (cancel_right r.denominator x.some v.numerator w.numerator (x.same ∙ ap (λ k. r.numerator *ℤ pos k) e ∙ sym y.same), e)

pub too_wide_by_gcd : (r : Ratio) (g : ℕ) → IsGcd (unsigned_abs r.numerator) r.denominator g → 0 < r.denominator → (unsigned_abs r.numerator / g < 2 ^ 63 → r.denominator / g < 2 ^ 63 → ⊥) → IsTooWide r
too_wide_by_gcd r g h some wide = record {
  some = some;
  wide = λ v x w.
      let is : (unsigned_abs v.numerator ≡ unsigned_abs r.numerator / g) × (v.denominator ≡ r.denominator / g) = parts_by_gcd r v g h x in
      wide (rw (← is.0) w.above) (rw (← is.1) w.below);
}
