-- A number over a power of ten, freed of the twos and fives that both have.
use Rattle.std.proofs.Common.{◌≡◌, ℕ, zero, suc, ◌+◌, ◌*◌, ◌-◌, ◌/◌, ◌%◌, ◌^◌, ◌<◌, ◌≤◌, min, Bool, arith, ap, ◌∙◌, refl, lit<, inl, inr, ◌⊎◌}
use Rattle.std.specs.Int.{◌∣◌}
use Rattle.std.proofs.lemmas.Bool.{cases_lt}
use Rattle.std.proofs.lemmas.Nat.{pow-add}
use Rattle.std.proofs.lemmas.Nat.Gcd.{dvd_trans, dvd_of_mod-eq-zero, mod-eq-zero_of_dvd}
use Rattle.std.proofs.Math.Nat.{pow-suc, one-le-pow, mul-div_cancel', mul-div_cancel_left, dvd-mul_left, dvd-mul_right}
use Rattle.fisca_num.specs.Rational.{IsLowest, signed}
use Rattle.fisca_num.specs.Halves.{IsHalved}
use Rattle.fisca_num.specs.Lowest.{IsCoprime}
use Rattle.fisca_num.specs.Tens.{no_other}
use Rattle.fisca_num.specs.Digits.{ten_pos}
use Rattle.fisca_num.specs.Operations.{number_of}
use Rattle.fisca_num.proofs.Alike.{number_of_same, signed_same}
use Rattle.fisca_num.proofs.Cut.{lowest_of}

-- left / under is size / tens, and no 2 divides both
pub record IsFreed (size tens left under : ℕ) : Type 0 where
  pub same : left * tens ≡ size * under
  pub odd : (left % 2 ≡ 1) ⊎ (under % 2 ≡ 1)
  pub part : under ∣ tens
  pub some : 0 < under

-- ---- the twos

ten_by : (k : ℕ) → 10 ^ k ≡ 2 ^ k * 5 ^ k
ten_by zero = refl
ten_by (suc k) = pow-suc 10 k ∙ omega (arith, ten_by k, ap (λ z. z * 5 ^ suc k) (pow-suc 2 k), ap (λ z. 2 * 2 ^ k * z) (pow-suc 5 k))

five_odd : (k : ℕ) → 5 ^ k % 2 ≡ 1
five_odd zero = refl
five_odd (suc k) = omega (arith, pow-suc 5 k, five_odd k)

two_pos : (k : ℕ) → 0 < 2 ^ k
two_pos k = one-le-pow k 2 (lit< tt)

two_part : (j k : ℕ) → j ≤ k → 2 ^ j ∣ 2 ^ k
two_part j k le = let e : 2 ^ k ≡ 2 ^ j * 2 ^ (k - j) = let f : k ≡ j + (k - j) = omega arith in ap (λ i. 2 ^ i) f ∙ pow-add 2 j (k - j) in rw e (dvd-mul_right (2 ^ j) (2 ^ (k - j)))

quotient_part : (n d : ℕ) → d ∣ n → n / d ∣ n
quotient_part n d h = let e : d * (n / d) ≡ n = mul-div_cancel' d h in rw e at (dvd-mul_left (n / d) d)

quotient_some : (n d : ℕ) → 0 < n → d ∣ n → 0 < n / d
quotient_some n d some h = let e : d * (n / d) ≡ n = mul-div_cancel' d h in grind (arith, e)

crossed : (size tens two : ℕ) → two ∣ size → two ∣ tens → size / two * tens ≡ size * (tens / two)
crossed size tens two p q =
    let a : two * (size / two) ≡ size = mul-div_cancel' two p in
    let b : two * (tens / two) ≡ tens = mul-div_cancel' two q in
    omega (arith, ap (λ z. size / two * z) b, ap (λ z. z * (tens / two)) a)

odd_part : (size halvings places : ℕ) → IsHalved size halvings → (size / 2 ^ min halvings places % 2 ≡ 1) ⊎ (10 ^ places / 2 ^ min halvings places % 2 ≡ 1)
odd_part size halvings places h =
    elim (cases_lt places halvings) [
      | inl p ↦
          let m : min halvings places ≡ places = omega arith in
          let e : 10 ^ places / 2 ^ places ≡ 5 ^ places = ap (λ z. z / 2 ^ places) (ten_by places) ∙ mul-div_cancel_left (5 ^ places) (two_pos places) in
          inr (rw (m, e) (five_odd places))
      | inr p ↦ let m : min halvings places ≡ halvings = omega arith in inl (rw m h.odd)
    ]

pub without_twos : (size halvings places : ℕ) → IsHalved size halvings → IsFreed size (10 ^ places) (size / 2 ^ min halvings places) (10 ^ places / 2 ^ min halvings places)
without_twos size halvings places h =
    let left : 2 ^ min halvings places ∣ size = dvd_trans _ (two_part (min halvings places) halvings (omega arith)) (rw h.whole at (dvd-mul_right (2 ^ halvings) (size / 2 ^ halvings))) in
    let right : 2 ^ min halvings places ∣ 10 ^ places = dvd_trans _ (two_part (min halvings places) places (omega arith)) (rw (ten_by places) (dvd-mul_right (2 ^ places) (5 ^ places))) in
    record {
      same = crossed size (10 ^ places) (2 ^ min halvings places) left right;
      odd = odd_part size halvings places h;
      part = quotient_part (10 ^ places) (2 ^ min halvings places) right;
      some = quotient_some (10 ^ places) (2 ^ min halvings places) (ten_pos places) right;
    }

-- ---- a five

odd_fifth : (n : ℕ) → 5 ∣ n → n % 2 ≡ 1 → n / 5 % 2 ≡ 1
odd_fifth n h odd = omega (arith, mul-div_cancel' 5 h)

pub without_five : (size tens left under : ℕ) → left % 5 ≡ 0 → under % 5 ≡ 0 → IsFreed size tens left under → IsFreed size tens (left / 5) (under / 5)
without_five size tens left under p q h =
    let a : 5 ∣ left = dvd_of_mod-eq-zero 5 p in
    let b : 5 ∣ under = dvd_of_mod-eq-zero 5 q in
    let l : 5 * (left / 5) ≡ left = mul-div_cancel' 5 a in
    let u : 5 * (under / 5) ≡ under = mul-div_cancel' 5 b in
    record {
      same = omega (arith, h.same, ap (λ z. z * tens) l, ap (λ z. size * z) u);
      odd = elim h.odd [ inl o ↦ inl (odd_fifth left a o) | inr o ↦ inr (odd_fifth under b o) ];
      part = dvd_trans (under / 5) (quotient_part under 5 b) h.part;
      some = quotient_some under 5 h.some b;
    }

-- ---- at the end

pub freed_coprime : (size places left under : ℕ) → IsFreed size (10 ^ places) left under → (left % 5 ≡ 0 → under % 5 ≡ 0 → ⊥) → IsCoprime left under
freed_coprime size places left under h fives e p q = no_other under e places q
    (λ two. let t : 2 ∣ e = dvd_of_mod-eq-zero 2 two in
    let l : left % 2 ≡ 0 = mod-eq-zero_of_dvd 2 (dvd_trans 2 t p) in
    let u : under % 2 ≡ 0 = mod-eq-zero_of_dvd 2 (dvd_trans 2 t q) in
    elim h.odd [ inl o ↦ omega arith | inr o ↦ omega arith ])
    (λ five. let t : 5 ∣ e = dvd_of_mod-eq-zero 5 five in fives (mod-eq-zero_of_dvd 5 (dvd_trans 5 t p)) (mod-eq-zero_of_dvd 5 (dvd_trans 5 t q)))
    h.part

pub freed_lowest : (negative : Bool) (size places left under : ℕ) → IsFreed size (10 ^ places) left under → (left % 5 ≡ 0 → under % 5 ≡ 0 → ⊥) → IsLowest (signed negative left) under
freed_lowest negative size places left under h fives = lowest_of negative left under h.some (freed_coprime size places left under h fives)

pub freed_number : (negative : Bool) (size places left under : ℕ) → IsFreed size (10 ^ places) left under → number_of (record { numerator = signed negative left; denominator = under }) ≡ number_of (record { numerator = signed negative size; denominator = 10 ^ places })
freed_number negative size places left under h = number_of_same _ _ h.some (ten_pos places) (signed_same negative left size (10 ^ places) under h.same)
