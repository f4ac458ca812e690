-- Products of twos and fives.
use Rattle.std.proofs.Common.{◌≡◌, ℕ, zero, suc, ◌+◌, ◌*◌, ◌-◌, ◌/◌, ◌%◌, ◌^◌, ◌<◌, ◌≤◌, max, arith, ap, ◌∙◌, lit<, lit≤, inl, inr}
use Rattle.std.specs.Int.{◌∣◌}
use Rattle.std.proofs.lemmas.Bool.{cases_lt}
use Rattle.std.proofs.lemmas.Nat.{pow-add, mul-pow}
use Rattle.std.proofs.lemmas.Nat.Gcd.{dvd_trans}
use Rattle.std.proofs.Math.Nat.{pow-suc, one-le-pow, pow-le-pow_left, pow-le-pow_right, mul-le-mul_left, eq-one_of_dvd-one, dvd-mul_left, dvd-mul_right, mul-dvd-mul, dvd_of_mul-dvd-mul_left}
use Rattle.fisca_num.specs.Lowest.{euclid}
use Rattle.fisca_num.specs.Tens.{IsLeastPower, coprime_2, coprime_5, no_other}

-- d is 2 ^ twos * 5 ^ fives * rest
pub record IsFactored (d twos fives rest : ℕ) : Type 0 where
  pub whole : d ≡ 2 ^ twos * (5 ^ fives * rest)
  pub some : 0 < rest

pub less_two : (d twos fives rest : ℕ) → IsFactored d twos fives rest → rest % 2 ≡ 0 → IsFactored d (twos + 1) fives (rest / 2)
less_two d twos fives rest x even =
    let half : 2 * (rest / 2) ≡ rest = omega arith in
    let some : 0 < rest = x.some in
    record {
      whole = x.whole ∙ omega (arith, ap (λ z. 2 ^ twos * (5 ^ fives * z)) half, ap (λ z. z * (5 ^ fives * (rest / 2))) (pow-add 2 twos 1));
      some = omega arith;
    }

pub less_five : (d twos fives rest : ℕ) → IsFactored d twos fives rest → rest % 5 ≡ 0 → IsFactored d twos (fives + 1) (rest / 5)
less_five d twos fives rest x fifth =
    let part : 5 * (rest / 5) ≡ rest = omega arith in
    let some : 0 < rest = x.some in
    record {
      whole = x.whole ∙ omega (arith, ap (λ z. 2 ^ twos * (5 ^ fives * z)) part, ap (λ z. 2 ^ twos * (z * (rest / 5))) (pow-add 5 fives 1));
      some = omega arith;
    }

pub odd_fifth : (r : ℕ) → r % 5 ≡ 0 → (r % 2 ≡ 0 → ⊥) → r / 5 % 2 ≡ 0 → ⊥
odd_fifth r h odd e = odd (omega arith)

power_below : (b n m : ℕ) → 2 ≤ b → b ^ n ≤ m → m < 2 ^ 63 → n < 63
power_below b n m two h below =
    elim (cases_lt n 63) [
      | inl p ↦ p
      | inr p ↦ let low : 2 ^ 63 ≤ 2 ^ n = pow-le-pow_right (lit< tt) p in absurd (omega (arith, pow-le-pow_left two n))
    ]

first_le : (a b c : ℕ) → 0 < b → 0 < c → a ≤ a * (b * c)
first_le a b c hb hc = omega (arith, mul-le-mul_left a (mul-le-mul_left b hc), mul-le-mul_left a hb)

second_le : (a b c : ℕ) → 0 < a → 0 < c → b ≤ a * (b * c)
second_le a b c ha hc = omega (arith, first_le b a c ha hc)

pub few_twos : (d twos fives rest : ℕ) → IsFactored d twos fives rest → d < 2 ^ 63 → twos < 63
few_twos d twos fives rest x below = power_below 2 twos d (lit≤ tt) (rw x.whole (first_le (2 ^ twos) (5 ^ fives) rest (one-le-pow fives 5 (lit< tt)) x.some)) below

pub few_fives : (d twos fives rest : ℕ) → IsFactored d twos fives rest → d < 2 ^ 63 → fives < 63
few_fives d twos fives rest x below = power_below 5 fives d (lit≤ tt) (rw x.whole (second_le (2 ^ twos) (5 ^ fives) rest (one-le-pow twos 2 (lit< tt)) x.some)) below

no_five : (n : ℕ) → 2 ^ n % 5 ≡ 0 → ⊥
no_five zero h = absurd (omega arith)
no_five (suc n) h = no_five n (omega (arith, pow-suc 2 n))

no_two : (n : ℕ) → 5 ^ n % 2 ≡ 0 → ⊥
no_two zero h = absurd (omega arith)
no_two (suc n) h = no_two n (omega (arith, pow-suc 5 n))

two_le : (n j : ℕ) → 2 ^ n ∣ 10 ^ j → n ≤ j
two_le zero j h = omega arith
two_le (suc n) zero h = absurd (omega (arith, pow-suc 2 n, eq-one_of_dvd-one h))
two_le (suc n) (suc j) h =
    let low : 2 ^ suc n ≡ 2 * 2 ^ n = omega (arith, pow-suc 2 n) in
    let high : 10 ^ suc j ≡ 2 * (5 * 10 ^ j) = omega (arith, pow-suc 10 j) in
    let less : n ≤ j = two_le n j (euclid (2 ^ n) 5 (10 ^ j) (coprime_5 (2 ^ n) (no_five n)) (dvd_of_mul-dvd-mul_left (2 ^ n) (lit< tt) (rw (low, high) at h))) in
    omega arith

five_le : (n j : ℕ) → 5 ^ n ∣ 10 ^ j → n ≤ j
five_le zero j h = omega arith
five_le (suc n) zero h = absurd (omega (arith, pow-suc 5 n, eq-one_of_dvd-one h))
five_le (suc n) (suc j) h =
    let low : 5 ^ suc n ≡ 5 * 5 ^ n = omega (arith, pow-suc 5 n) in
    let high : 10 ^ suc j ≡ 5 * (2 * 10 ^ j) = omega (arith, pow-suc 10 j) in
    let less : n ≤ j = five_le n j (euclid (5 ^ n) 2 (10 ^ j) (coprime_2 (5 ^ n) (no_two n)) (dvd_of_mul-dvd-mul_left (5 ^ n) (lit< tt) (rw (low, high) at h))) in
    omega arith

power_divides : (b n k : ℕ) → n ≤ k → b ^ n ∣ b ^ k
power_divides b n k h =
    let e : n + (k - n) ≡ k = omega arith in
    let f : b ^ n ∣ b ^ n * b ^ (k - n) = dvd-mul_right (b ^ n) (b ^ (k - n)) in
    rw (← pow-add b n (k - n), e) at f

-- the least power of ten has as many tens as d has twos or fives
pub least_of : (d twos fives rest : ℕ) → IsFactored d twos fives rest → rest ≡ 1 → IsLeastPower d (max twos fives)
least_of d twos fives rest x one =
    let k : ℕ = max twos fives in
    let whole : d ≡ 2 ^ twos * 5 ^ fives = x.whole ∙ omega (arith, ap (λ z. 2 ^ twos * (5 ^ fives * z)) one) in
    let ten : 10 ^ k ≡ 2 ^ k * 5 ^ k = mul-pow 2 5 k in
    record {
      covers = rw (whole, ten) (mul-dvd-mul (2 ^ twos) (5 ^ fives) (power_divides 2 twos k (omega arith)) (power_divides 5 fives k (omega arith)));
      least = λ j e h.
          let two : twos ≤ j = two_le twos j (dvd_trans (2 ^ twos) (rw (← whole) at (dvd-mul_right (2 ^ twos) (5 ^ fives))) h) in
          let five : fives ≤ j = five_le fives j (dvd_trans (5 ^ fives) (rw (← whole) at (dvd-mul_left (5 ^ fives) (2 ^ twos))) h) in
          omega arith;
    }

-- another factor, and no power of ten is covered
pub not_covered : (d twos fives rest : ℕ) → IsFactored d twos fives rest → (rest % 2 ≡ 0 → ⊥) → (rest % 5 ≡ 0 → ⊥) → (rest ≡ 1 → ⊥) → (k : ℕ) → d ∣ 10 ^ k → ⊥
not_covered d twos fives rest x odd fifth more k h =
    let whole : d ≡ 2 ^ twos * 5 ^ fives * rest = x.whole ∙ omega arith in
    let part : rest ∣ d = rw whole (dvd-mul_left rest (2 ^ twos * 5 ^ fives)) in
    more (no_other d rest k part odd fifth h)
