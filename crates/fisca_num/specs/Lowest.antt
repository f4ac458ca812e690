-- Lowest terms: Euclid's lemma, and that two pairs in lowest terms which stand for one rational are equal.
use Rattle.std.proofs.Common.{◌≡◌, ℕ, zero, suc, ◌+◌, ◌*◌, ◌-◌, ◌/◌, ◌<◌, ◌≤◌, arith, sym, ap, inl, inr}
use Rattle.std.specs.Int.{IsGcd, ◌∣◌}
use Rattle.std.proofs.lemmas.Bool.{cases_lt}
use Rattle.std.proofs.lemmas.Nat.Gcd.{IsGcd-from_zero, IsGcd-swap, IsGcd-from_sub, dvd_antisymm}
use Rattle.std.proofs.Math.Nat.{mul-zero, mul-one, one-mul, mul_comm, mul-sub, mul-le-mul_left, dvd-mul_left, mul-dvd-mul_left, dvd_of_mul-dvd-mul_left, eq-one_of_dvd-one, mul-div_cancel', eq_of_mul-eq-mul_left, eq_of_mul-eq-mul_right, pos_of_dvd_of_pos}

abbrev pub IsCoprime : ℕ → ℕ → Type 0
IsCoprime a b = (d : ℕ) → d ∣ a → d ∣ b → d ≡ 1

-- the greatest common divisor of a and b, which scales with them
pub record Scales (a b : ℕ) : Type 0 where
  pub gcd : ℕ
  pub at : (k : ℕ) → IsGcd (k * a) (k * b) (k * gcd)

swapped : (a b : ℕ) → Scales a b → Scales b a
swapped a b s = record { gcd = s.gcd; at = λ k. IsGcd-swap _ _ _ (s.at k) }

by_less : (a b : ℕ) → b ≤ a → Scales (a - b) b → Scales a b
by_less a b le s = record {
  gcd = s.gcd;
  at = λ k. IsGcd-from_sub (k * a) (k * b) (k * s.gcd) (mul-le-mul_left k le) (rw (← mul-sub k a b) (s.at k));
}

pub scales : (n a b : ℕ) → a + b ≤ n → Scales a b
scales n a zero h = record { gcd = a; at = λ k. IsGcd-from_zero (k * a) (k * zero) (mul-zero k) }
scales n zero (suc b) h = swapped (suc b) zero (record { gcd = suc b; at = λ k. IsGcd-from_zero (k * suc b) (k * zero) (mul-zero k) })
scales zero (suc a) (suc b) h = absurd (omega arith)
scales (suc n) (suc a) (suc b) h =
    elim (cases_lt (suc a) (suc b)) [
      | inl lt ↦ let le : suc a ≤ suc b = omega arith in swapped (suc b) (suc a) (by_less (suc b) (suc a) le (scales n (suc b - suc a) (suc a) (omega arith)))
      | inr le ↦ by_less (suc a) (suc b) le (scales n (suc a - suc b) (suc b) (omega arith))
    ]

-- Euclid's lemma
pub euclid : (a b c : ℕ) → IsCoprime a b → a ∣ b * c → a ∣ c
euclid a b c co h =
    let s : Scales a b = scales (a + b) a b (omega arith) in
    let one : IsGcd a b s.gcd = rw (one-mul a, one-mul b, one-mul s.gcd) at (s.at 1) in
    let unit : s.gcd ≡ 1 = co s.gcd one.0 one.1 in
    let all : a ∣ c * s.gcd = (s.at c).2 a (dvd-mul_left a c) (rw (mul_comm c b) h) in
    rw (unit, mul-one c) at all

-- two pairs in lowest terms that stand for one rational have equal parts
pub divides : (n d m e : ℕ) → IsCoprime n d → n * e ≡ m * d → d ∣ e
divides n d m e co h = euclid d n e (λ k p q. co k q p) (rw h (dvd-mul_left d m))

pub lowest_same : (n d m e : ℕ) → IsCoprime n d → IsCoprime m e → n * e ≡ m * d → 0 < d → (n ≡ m) × (d ≡ e)
lowest_same n d m e co co' h some =
    let same : d ≡ e = dvd_antisymm (divides n d m e co h) (divides m e n d co' (sym h)) in
    (eq_of_mul-eq-mul_right d some n m (rw (← same) at h), same)

-- what is left of two numbers by their greatest common divisor
pub gcd_pos : (n d g : ℕ) → IsGcd n d g → 0 < d → 0 < g
gcd_pos n d g h some = pos_of_dvd_of_pos h.1 some

pub coprime_from_gcd : (n d g : ℕ) → IsGcd n d g → 0 < d → IsCoprime (n / g) (d / g)
coprime_from_gcd n d g h some k p q =
    let left : g * k ∣ n = rw (mul-div_cancel' g h.0) at (mul-dvd-mul_left k g p) in
    let right : g * k ∣ d = rw (mul-div_cancel' g h.1) at (mul-dvd-mul_left k g q) in
    let all : g * k ∣ g * 1 = rw (mul-one g) (h.2 (g * k) left right) in
    eq-one_of_dvd-one (dvd_of_mul-dvd-mul_left k (gcd_pos n d g h some) all)

-- any pair in lowest terms that stands for n / d is (n / g, d / g)
pub reduced_is : (n d g m e : ℕ) → IsGcd n d g → 0 < d → IsCoprime m e → 0 < e → m * d ≡ n * e → (m ≡ n / g) × (e ≡ d / g)
reduced_is n d g m e h some co up same =
    let co' : IsCoprime (n / g) (d / g) = coprime_from_gcd n d g h some in
    let gd : g * (d / g) ≡ d = mul-div_cancel' g h.1 in
    let gn : g * (n / g) ≡ n = mul-div_cancel' g h.0 in
    let e1 : g * (m * (d / g)) ≡ g * ((n / g) * e) = omega (arith, same, ap (λ x. m * x) gd, ap (λ x. x * e) gn) in
    lowest_same m e (n / g) (d / g) co co' (eq_of_mul-eq-mul_left g (gcd_pos n d g h some) _ _ e1) up

-- each two numbers have a greatest common divisor
pub record Divisor (a b : ℕ) : Type 0 where
  pub gcd : ℕ
  pub is : IsGcd a b gcd

pub divisor_of : (a b : ℕ) → Divisor a b
divisor_of a b =
    let s : Scales a b = scales (a + b) a b (omega arith) in
    record { gcd = s.gcd; is = rw (one-mul a, one-mul b, one-mul s.gcd) at (s.at 1) }
