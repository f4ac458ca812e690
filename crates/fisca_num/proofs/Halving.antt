-- Twos in a number.
use Rattle.std.proofs.Common.{◌≡◌, ℕ, zero, suc, ◌+◌, ◌*◌, ◌-◌, ◌/◌, ◌%◌, ◌^◌, ◌<◌, ◌≤◌, min, arith, ap, sym, ◌∙◌, lit<, inl, inr}
use Rattle.std.specs.Int.{◌∣◌, IsGcd, bit_at, abs_diff}
use Rattle.std.proofs.lemmas.Bool.{cases_lt}
use Rattle.std.proofs.lemmas.Nat.{mod-pow-add, pow-add}
use Rattle.std.proofs.lemmas.Nat.Gcd.{dvd_trans, le_of_dvd, dvd_of_mod-eq-zero, mod-eq-zero_of_dvd, IsGcd-swap, IsGcd-from_sub, same_from_IsGcd}
use Rattle.std.proofs.Math.Nat.{pow-suc, one-le-pow, mul-div_cancel', mul-div_cancel_left, dvd-mul_left_of_dvd, mul-le-mul_left, mul-div-le, mul-sub}
use Rattle.fisca_num.specs.Halves.{IsHalved}
use Rattle.fisca_num.specs.Lowest.{euclid, Scales, scales}
use Rattle.fisca_num.specs.Tens.{coprime_2}

-- all bits below the k-th are 0
low_zero : (n k : ℕ) → ((i : ℕ) → i < k → bit_at n i ≡ 0) → n % 2 ^ k ≡ 0
low_zero n zero h = omega arith
low_zero n (suc k) h =
    let less : n % 2 ^ k ≡ 0 = low_zero n k (λ i p. h i (omega arith)) in
    let bit : n / 2 ^ k % 2 ≡ 0 = h k (omega arith) in
    let split : n % 2 ^ (1 + k) ≡ (n / 2 ^ k % 2) * 2 ^ k + n % 2 ^ k = mod-pow-add n 1 k in
    ap (λ j. n % 2 ^ j) (let e : suc k ≡ 1 + k = omega arith in e) ∙ split ∙ omega (arith, ap (λ z. z * 2 ^ k) bit)

pub halved : (n k : ℕ) → k < 64 → bit_at n k ≡ 1 → ((i : ℕ) → i < k → bit_at n i ≡ 0) → IsHalved n k
halved n k few odd low = record { whole = mul-div_cancel' (2 ^ k) (dvd_of_mod-eq-zero (2 ^ k) (low_zero n k low)); odd = odd; few = few }

two_pos : (k : ℕ) → 0 < 2 ^ k
two_pos k = one-le-pow k 2 (lit< tt)

-- what divides an odd number has no factor 2 with it
odd_divisor : (a e : ℕ) → a % 2 ≡ 1 → e ∣ a → e % 2 ≡ 0 → ⊥
odd_divisor a e odd h even = let two : a % 2 ≡ 0 = mod-eq-zero_of_dvd 2 (dvd_trans 2 (dvd_of_mod-eq-zero 2 even) h) in omega arith

no_twos : (e k b : ℕ) → (e % 2 ≡ 0 → ⊥) → e ∣ 2 ^ k * b → e ∣ b
no_twos e zero b odd h = let one : 2 ^ zero * b ≡ b = omega arith in rw one at h
no_twos e (suc k) b odd h =
    let two : 2 ^ suc k * b ≡ 2 * (2 ^ k * b) = omega (arith, ap (λ z. z * b) (pow-suc 2 k)) in
    no_twos e k b odd (euclid e 2 (2 ^ k * b) (coprime_2 e odd) (rw two at h))

-- twos beside an odd number change no common divisor
pub add_twos : (a b k g : ℕ) → a % 2 ≡ 1 → IsGcd a b g → IsGcd a (2 ^ k * b) g
add_twos a b k g odd h = (h.0, dvd-mul_left_of_dvd g h.1 (2 ^ k), λ e p q. h.2 e p (no_twos e k b (odd_divisor a e odd p) q))

scaled : (c u v g : ℕ) → IsGcd u v g → IsGcd (c * u) (c * v) (c * g)
scaled c u v g h =
    let s : Scales u v = scales (u + v) u v (omega arith) in
    let one : IsGcd u v s.gcd = rw (let e : 1 * u ≡ u = omega arith in e, let e : 1 * v ≡ v = omega arith in e, let e : 1 * s.gcd ≡ s.gcd = omega arith in e) at (s.at 1) in
    rw (same_from_IsGcd u v g s.gcd h one) (s.at c)

twos_below : (i j u v g : ℕ) → i ≤ j → u % 2 ≡ 1 → IsGcd u v g → IsGcd (2 ^ i * u) (2 ^ j * v) (2 ^ i * g)
twos_below i j u v g le odd h =
    let e : 2 ^ j * v ≡ 2 ^ i * (2 ^ (j - i) * v) = let f : j ≡ i + (j - i) = omega arith in ap (λ k. 2 ^ k * v) f ∙ omega (arith, ap (λ z. z * v) (pow-add 2 i (j - i))) in
    rw e (scaled (2 ^ i) u (2 ^ (j - i) * v) g (add_twos u v (j - i) g odd h))

-- the greatest common divisor of two numbers, from that of what is left without their twos
pub with_twos : (a b i j g : ℕ) → IsHalved a i → IsHalved b j → IsGcd (a / 2 ^ i) (b / 2 ^ j) g → IsGcd a b (g * 2 ^ min i j)
with_twos a b i j g x y h =
    elim (cases_lt i j) [
      | inl p ↦
          let m : min i j ≡ i = omega arith in
          let c : g * 2 ^ i ≡ 2 ^ i * g = omega arith in
          rw (m, c) (rw (x.whole, y.whole) at (twos_below i j (a / 2 ^ i) (b / 2 ^ j) g (omega arith) x.odd h))
      | inr p ↦
          let m : min i j ≡ j = omega arith in
          let c : g * 2 ^ j ≡ 2 ^ j * g = omega arith in
          rw (m, c) (IsGcd-swap _ _ _ (rw (x.whole, y.whole) at (twos_below j i (b / 2 ^ j) (a / 2 ^ i) g p y.odd (IsGcd-swap _ _ _ h))))
    ]

-- ---- one step: of odd x and y to the less and the odd part of the gap

from_gap : (x y k g : ℕ) → x ≤ y → x % 2 ≡ 1 → 2 ^ k * ((y - x) / 2 ^ k) ≡ y - x → IsGcd x ((y - x) / 2 ^ k) g → IsGcd x y g
from_gap x y k g le odd whole h = IsGcd-swap _ _ _ (IsGcd-from_sub y x g le (IsGcd-swap _ _ _ (rw whole at (add_twos x ((y - x) / 2 ^ k) k g odd h))))

-- a word and its negation have as many twos
negated : (w k m : ℕ) → k ≤ 64 → w + m ≡ 2 ^ 64 → 2 ^ k * (w / 2 ^ k) ≡ w → m ≡ 2 ^ k * (2 ^ (64 - k) - w / 2 ^ k)
negated w k m few e h =
    let ten : 2 ^ 64 ≡ 2 ^ k * 2 ^ (64 - k) = let f : 64 ≡ k + (64 - k) = omega arith in ap (λ i. 2 ^ i) f ∙ pow-add 2 k (64 - k) in
    let apart : m ≡ 2 ^ k * 2 ^ (64 - k) - 2 ^ k * (w / 2 ^ k) = omega arith in
    apart ∙ sym (mul-sub (2 ^ k) (2 ^ (64 - k)) (w / 2 ^ k))

negated_quotient : (w k m : ℕ) → k ≤ 64 → w + m ≡ 2 ^ 64 → 2 ^ k * (w / 2 ^ k) ≡ w → m / 2 ^ k ≡ 2 ^ (64 - k) - w / 2 ^ k
negated_quotient w k m few e h = ap (λ z. z / 2 ^ k) (negated w k m few e h) ∙ mul-div_cancel_left (2 ^ (64 - k) - w / 2 ^ k) (two_pos k)

quotient_less : (w k : ℕ) → k ≤ 64 → w ≤ 2 ^ 64 → w / 2 ^ k ≤ 2 ^ (64 - k)
quotient_less w k few h =
    let ten : 2 ^ 64 ≡ 2 ^ k * 2 ^ (64 - k) = let f : 64 ≡ k + (64 - k) = omega arith in ap (λ i. 2 ^ i) f ∙ pow-add 2 k (64 - k) in
    elim (cases_lt (2 ^ (64 - k)) (w / 2 ^ k)) [
      | inl p ↦ let some : 0 < 2 ^ k = two_pos k in absurd (omega (arith, mul-le-mul_left (2 ^ k) p, mul-div-le w (2 ^ k)))
      | inr p ↦ p
    ]

pub negated_halved : (w k m : ℕ) → w + m ≡ 2 ^ 64 → IsHalved w k → IsHalved m k
negated_halved w k m e h =
    let few : k < 64 = h.few in
    let odd : w / 2 ^ k % 2 ≡ 1 = h.odd in
    let quotient : m / 2 ^ k ≡ 2 ^ (64 - k) - w / 2 ^ k = negated_quotient w k m (omega arith) e h.whole in
    let even : 2 ^ (64 - k) ≡ 2 * 2 ^ (63 - k) = let f : 64 - k ≡ suc (63 - k) = omega arith in ap (λ i. 2 ^ i) f ∙ omega (arith, pow-suc 2 (63 - k)) in
    let less : w / 2 ^ k ≤ 2 ^ (64 - k) = quotient_less w k (omega arith) (omega arith) in
    record {
      whole = rw quotient (sym (negated w k m (omega arith) e h.whole));
      odd = omega arith;
      few = few;
    }

-- what the words x and y become
pub record IsStep (x y w k gap : ℕ) : Type 0 where
  pub x_odd : x % 2 ≡ 1
  pub y_odd : y % 2 ≡ 1
  pub x_word : x < 2 ^ 64
  pub y_word : y < 2 ^ 64
  pub other : x ≡ y → ⊥
  pub difference : w ≡ (x + (2 ^ 64 - y)) % 2 ^ 64
  pub halved : IsHalved w k
  pub gap_is : gap ≡ abs_diff y x

gap_up : (x y w k gap : ℕ) → IsStep x y w k gap → x < y → (gap ≡ y - x) × IsHalved gap k
gap_up x y w k gap s h =
    let e : gap ≡ y - x = s.gap_is ∙ omega arith in
    let f : w + gap ≡ 2 ^ 64 = omega (arith, s.difference, s.y_word) in
    (e, negated_halved w k gap f s.halved)

gap_down : (x y w k gap : ℕ) → IsStep x y w k gap → y < x → (gap ≡ x - y) × IsHalved gap k
gap_down x y w k gap s h =
    let e : gap ≡ x - y = s.gap_is ∙ omega arith in
    let f : w ≡ gap = omega (arith, s.difference, s.x_word) in
    (e, rw f at s.halved)

pub step_gcd : (x y w k gap g : ℕ) → IsStep x y w k gap → IsGcd (min x y) (gap / 2 ^ k) g → IsGcd x y g
step_gcd x y w k gap g s h =
    elim (cases_lt x y) [
      | inl p ↦
          let t = gap_up x y w k gap s p in
          let m : min x y ≡ x = omega arith in
          from_gap x y k g (omega arith) s.x_odd (rw t.0 at t.1.whole) (rw (m, t.0) at h)
      | inr p ↦
          let q : y < x = omega (arith, s.other) in
          let t = gap_down x y w k gap s q in
          let m : min x y ≡ y = omega arith in
          IsGcd-swap _ _ _ (from_gap y x k g p s.y_odd (rw t.0 at t.1.whole) (rw (m, t.0) at h))
    ]

pub step_odd : (x y w k gap : ℕ) → IsStep x y w k gap → (min x y % 2 ≡ 1) × (gap / 2 ^ k % 2 ≡ 1)
step_odd x y w k gap s =
    let xo : x % 2 ≡ 1 = s.x_odd in
    let yo : y % 2 ≡ 1 = s.y_odd in
    elim (cases_lt x y) [
      | inl p ↦ let m : min x y ≡ x = omega arith in (rw m xo, (gap_up x y w k gap s p).1.odd)
      | inr p ↦ let m : min x y ≡ y = omega arith in (rw m yo, (gap_down x y w k gap s (omega (arith, s.other))).1.odd)
    ]

pub word_gcd : (a b g r : ℕ) → 0 < a → a < 2 ^ 64 → IsGcd a b g → r ≡ g % 2 ^ 64 → IsGcd a b r
word_gcd a b g r some word h e =
    let less : g ≤ a = le_of_dvd some h.0 in
    let same : r ≡ g = omega arith in
    rw same h
