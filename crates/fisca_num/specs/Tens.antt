-- Which numbers divide a power of ten.
use Rattle.std.proofs.Common.{◌≡◌, ℕ, zero, suc, ◌+◌, ◌*◌, ◌/◌, ◌%◌, ◌^◌, ◌<◌, ◌≤◌, arith, refl, ap, lit<, add-one, inl, inr, ◌⊎◌}
use Rattle.std.specs.Int.{◌∣◌}
use Rattle.std.proofs.lemmas.Bool.{cases_lt}
use Rattle.std.proofs.lemmas.Nat.Gcd.{dvd_refl, dvd_trans, le_of_dvd, dvd_of_mod-eq-zero, mod-eq-zero_of_dvd}
use Rattle.std.proofs.Math.Nat.{eq-zero_of_zero-dvd, eq-one_of_dvd-one, dvd-mul_left, mul-div_cancel', pow-suc, one-mul, mul-one}
use Rattle.fisca_num.specs.Lowest.{IsCoprime, euclid}

-- d is rest but for twos and fives
pub record Strips (d rest : ℕ) : Type 0 where
  pub power : ℕ
  pub covers : d ∣ 10 ^ power * rest
  pub part : rest ∣ d
  pub some : 0 < rest

pub strips_none : (d : ℕ) → 0 < d → Strips d d
strips_none d h = record { power = 0; covers = rw (one-mul d) (dvd_refl d); part = dvd_refl d; some = h }

ten_more : (k : ℕ) → 10 ^ (k + 1) ≡ 10 * 10 ^ k
ten_more k = rw (add-one k) (omega (arith, pow-suc 10 k))

-- one factor p of ten goes
pub strip : (p q d r : ℕ) → p * q ≡ 10 → r % p ≡ 0 → Strips d r → Strips d (r / p)
strip p q d r e h s =
    let by : p * (r / p) ≡ r = mul-div_cancel' p (dvd_of_mod-eq-zero p h) in
    record {
      power = s.power + 1;
      covers = dvd_trans d s.covers (let f : 10 ^ (s.power + 1) * (r / p) ≡ q * (10 ^ s.power * r) = omega (arith, ten_more s.power, ap (λ z. q * (10 ^ s.power * z)) by, ap (λ z. z * (10 ^ s.power * (r / p))) e, ap (λ z. z * (r / p)) (ten_more s.power)) in rw f (dvd-mul_left (10 ^ s.power * r) q));
      part = dvd_trans (r / p) (let g : r / p ∣ p * (r / p) = dvd-mul_left (r / p) p in rw by at g) s.part;
      some = grind (arith, by);
    }

pub coprime_2 : (r : ℕ) → (r % 2 ≡ 0 → ⊥) → IsCoprime r 2
coprime_2 r h zero p q = absurd (omega (arith, eq-zero_of_zero-dvd q))
coprime_2 r h (suc zero) p q = refl
coprime_2 r h (suc (suc zero)) p q = absurd (h (mod-eq-zero_of_dvd 2 p))
coprime_2 r h (suc (suc (suc n))) p q = absurd (omega (arith, le_of_dvd (lit< tt) q))

pub coprime_5 : (r : ℕ) → (r % 5 ≡ 0 → ⊥) → IsCoprime r 5
coprime_5 r h zero p q = absurd (omega (arith, eq-zero_of_zero-dvd q))
coprime_5 r h (suc zero) p q = refl
coprime_5 r h (suc (suc zero)) p q = absurd (omega (arith, mod-eq-zero_of_dvd 2 q))
coprime_5 r h (suc (suc (suc zero))) p q = absurd (omega (arith, mod-eq-zero_of_dvd 3 q))
coprime_5 r h (suc (suc (suc (suc zero)))) p q = absurd (omega (arith, mod-eq-zero_of_dvd 4 q))
coprime_5 r h (suc (suc (suc (suc (suc zero))))) p q = absurd (h (mod-eq-zero_of_dvd 5 p))
coprime_5 r h (suc (suc (suc (suc (suc (suc n)))))) p q = absurd (omega (arith, le_of_dvd (lit< tt) q))

only_one : (r k : ℕ) → IsCoprime r 2 → IsCoprime r 5 → r ∣ 10 ^ k → r ≡ 1
only_one r zero two five h = eq-one_of_dvd-one h
only_one r (suc k) two five h =
    let e : 10 ^ suc k ≡ 2 * (5 * 10 ^ k) = omega (arith, pow-suc 10 k) in
    only_one r k two five (euclid r 5 (10 ^ k) five (euclid r 2 (5 * 10 ^ k) two (rw e at h)))

-- what divides a power of ten has no other factors than twos and fives
pub no_other : (d r k : ℕ) → r ∣ d → (r % 2 ≡ 0 → ⊥) → (r % 5 ≡ 0 → ⊥) → d ∣ 10 ^ k → r ≡ 1
no_other d r k part two five h = only_one r k (coprime_2 r two) (coprime_5 r five) (dvd_trans r part h)

pub covers_one : (d r : ℕ) (s : Strips d r) → r ≡ 1 → d ∣ 10 ^ s.power
covers_one d r s e = rw (e, mul-one (10 ^ s.power)) at s.covers

-- d without its twos and fives
record Stripped (d : ℕ) : Type 0 where
  rest : ℕ
  strips : Strips d rest
  odd : rest % 2 ≡ 0 → ⊥
  no_five : rest % 5 ≡ 0 → ⊥

stripped : (d n r : ℕ) → r ≤ n → Strips d r → Stripped d
stripped d zero r h s = let some : 0 < r = s.some in absurd (omega arith)
stripped d (suc n) r h s =
    let some : 0 < r = s.some in
    elim (cases_lt 0 (r % 2)) [
      | inl odd ↦ elim (cases_lt 0 (r % 5)) [
        | inl five ↦ record { rest = r; strips = s; odd = λ e. omega arith; no_five = λ e. omega arith }
        | inr e ↦ stripped d n (r / 5) (omega arith) (strip 5 2 d r refl (omega arith) s)
      ]
      | inr e ↦ stripped d n (r / 2) (omega arith) (strip 2 5 d r refl (omega arith) s)
    ]

-- the least power of ten that d divides
pub record IsLeastPower (d power : ℕ) : Type 0 where
  pub covers : d ∣ 10 ^ power
  pub least : (j : ℕ) → suc j ≡ power → d ∣ 10 ^ j → ⊥

pub record LeastPower (d : ℕ) : Type 0 where
  pub power : ℕ
  pub is : IsLeastPower d power

pub least_power : (d k : ℕ) → d ∣ 10 ^ k → LeastPower d
least_power d zero h = record { power = zero; is = record { covers = h; least = λ j e p. absurd (omega arith) } }
least_power d (suc k) h =
    elim (cases_lt 0 (10 ^ k % d)) [
      | inl some ↦ record {
        power = suc k;
        is = record {
          covers = h;
          least = λ j e p. let same : j ≡ k = omega arith in let none : 10 ^ k % d ≡ 0 = rw same at (mod-eq-zero_of_dvd d p) in omega arith;
        };
      }
      | inr none ↦ least_power d k (dvd_of_mod-eq-zero d (omega arith))
    ]

-- d divides a power of ten, or none
pub decimal_or_not : (d : ℕ) → 0 < d → LeastPower d ⊎ ((k : ℕ) → d ∣ 10 ^ k → ⊥)
decimal_or_not d some =
    let s : Stripped d = stripped d d d (omega arith) (strips_none d some) in
    elim (cases_lt 1 s.rest) [
      | inl more ↦ inr (λ k h. let one : s.rest ≡ 1 = no_other d s.rest k s.strips.part s.odd s.no_five h in omega arith)
      | inr less ↦ let positive : 0 < s.rest = s.strips.some in inl (least_power d s.strips.power (covers_one d s.rest s.strips (omega arith)))
    ]
