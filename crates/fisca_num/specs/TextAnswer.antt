-- Each number has just one text that `IsTextOf` allows.
use Rattle.std.proofs.Common.{◌≡◌, ◌≢◌, lit<, ℕ, zero, suc, ◌+◌, ◌*◌, ◌-◌, ◌/◌, ◌%◌, ◌^◌, ◌<◌, unsigned_abs, List, [], ◌∷◌, ◌++◌, length, arith, refl, ap, sym, ◌∙◌, inl, inr, length-append}
use Rattle.std.specs.Int.{◌∣◌}
use Rattle.std.specs.Fmt.{decimal}
use Rattle.std.specs.Str.Parse.{AllDigits, digits_value}
use Rattle.std.proofs.lemmas.Bool.{cases_lt}
use Rattle.std.proofs.lemmas.Nat.Gcd.{dvd_trans}
use Rattle.std.proofs.lemmas.Nat.{pow-add}
use Rattle.std.proofs.lemmas.Int.Digits.{digits_value-lt, digits_value_push}
use Rattle.std.proofs.Math.Nat.{pow-suc, dvd-mul_left, dvd-mul_right, mul-div_cancel', eq_of_mul-eq-mul_left, eq_of_mul-eq-mul_right}
use Rattle.fisca_num.specs.Number.{Number}
use Rattle.fisca_num.specs.Numeral.{sign_of, pointed, fraction_text, IsNumeralOf, IsTextOf}
use Rattle.fisca_num.specs.Lowest.{euclid}
use Rattle.fisca_num.specs.Tens.{IsLeastPower, LeastPower, decimal_or_not}
use Rattle.fisca_num.specs.Digits.{ten_pos, padded, length-padded, digits-padded, value-padded, place_same, same_digits, ends_in_zero}

-- a number with k places, the whole part first, where the last place of several is not 0
record Places (n d k m : ℕ) : Type 0 where
  value : n * 10 ^ k ≡ m * d
  last : 0 < k → 0 < m % 10

number_in : (whole places k : ℕ) → 0 < k → 0 < places % 10 → 0 < (whole * 10 ^ k + places) % 10
number_in whole places zero some h = absurd (omega arith)
number_in whole places (suc k) some h = omega (arith, ap (λ z. whole * z) (pow-suc 10 k))

last_place : (places : List ℕ) → AllDigits 10 places → ((front : List ℕ) → places ≢ front ++ (48 ∷ [])) → 0 < length places → 0 < digits_value 10 places % 10
last_place places p last some =
    elim (cases_lt 0 (digits_value 10 places % 10)) [
      | inl h ↦ h
      | inr h ↦ let t = ends_in_zero places some p (omega arith) in absurd (last t.0 t.1)
    ]

places_of : (text : List ℕ) (v : Number) (x : IsNumeralOf text v) → Places (unsigned_abs v.numerator) v.denominator (length x.places) (x.whole * 10 ^ length x.places + digits_value 10 x.places)
places_of text v x = record {
  value = x.value;
  last = λ some. number_in x.whole (digits_value 10 x.places) (length x.places) some (last_place x.places x.digits x.last some);
}

-- the places of a number are as many as it needs
not_more : (n d j k l m : ℕ) → 0 < d → Places n d j l → Places n d k m → j < k → ⊥
not_more n d j k l m some x y h =
    let i : ℕ = k - suc j in
    let apart : 10 ^ k ≡ 10 * (10 ^ i * 10 ^ j) = let e : k ≡ suc (i + j) = omega arith in ap (λ z. 10 ^ z) e ∙ pow-suc 10 (i + j) ∙ omega (arith, pow-add 10 i j) in
    let scaled : d * (10 * (10 ^ i * l)) ≡ d * m = omega (arith, ap (λ z. n * z) apart, ap (λ z. 10 * (10 ^ i * z)) x.value, y.value) in
    let tenfold : 10 * (10 ^ i * l) ≡ m = eq_of_mul-eq-mul_left d some _ _ scaled in
    let last : 0 < m % 10 = y.last (omega arith) in
    omega (arith, tenfold)

same_count : (n d j k l m : ℕ) → 0 < d → Places n d j l → Places n d k m → j ≡ k
same_count n d j k l m some x y =
    elim (cases_lt j k) [
      | inl h ↦ absurd (not_more n d j k l m some x y h)
      | inr h ↦ elim (cases_lt k j) [ inl g ↦ absurd (not_more n d k j m l some y x g) | inr g ↦ omega arith ]
    ]

same_number_of : (n d j k l m : ℕ) → 0 < d → j ≡ k → Places n d j l → Places n d k m → l ≡ m
same_number_of n d j k l m some e x y = eq_of_mul-eq-mul_right d some l m (sym x.value ∙ ap (λ z. n * 10 ^ z) e ∙ y.value)

-- a number has one numeral at most
pub numeral_once : (s t : List ℕ) (v : Number) → IsNumeralOf s v → IsNumeralOf t v → s ≡ t
numeral_once s t v x y =
    let p = places_of s v x in
    let q = places_of t v y in
    let count : length x.places ≡ length y.places = same_count _ _ _ _ _ _ v.lowest.positive p q in
    let all : x.whole * 10 ^ length x.places + digits_value 10 x.places ≡ y.whole * 10 ^ length y.places + digits_value 10 y.places = same_number_of _ _ _ _ _ _ v.lowest.positive count p q in
    let parts = place_same x.whole y.whole (digits_value 10 x.places) (digits_value 10 y.places) (10 ^ length y.places) (rw (← count) (digits_value-lt 10 x.places x.digits)) (digits_value-lt 10 y.places y.digits) (rw (← count) (rw (← count) at all)) in
    let places : x.places ≡ y.places = same_digits x.places y.places count x.digits y.digits parts.1 in
    x.written ∙ rw (parts.0, places) (sym y.written)

coprime_in : (v : Number) (j : ℕ) → v.denominator ∣ unsigned_abs v.numerator * 10 ^ j → v.denominator ∣ 10 ^ j
coprime_in v j = euclid v.denominator (unsigned_abs v.numerator) (10 ^ j) (λ k p q. v.lowest.coprime k q p)

-- with the least count of places the last is not 0
least_last : (v : Number) (k whole : ℕ) (places : List ℕ) → IsLeastPower v.denominator k → length places ≡ k → unsigned_abs v.numerator * 10 ^ k ≡ (whole * 10 ^ k + digits_value 10 places) * v.denominator → (front : List ℕ) → places ≢ front ++ (48 ∷ [])
least_last v zero whole places p count value front e = let size = ap length e in omega (arith, length-append front (48 ∷ []))
least_last v (suc k) whole places p count value front e =
    let last : digits_value 10 places ≡ digits_value 10 front * 10 + 0 = ap (digits_value 10) e ∙ digits_value_push 10 front 48 in
    let d : ℕ = v.denominator in
    let m : ℕ = whole * 10 ^ k + digits_value 10 front in
    let tenfold : whole * 10 ^ suc k + digits_value 10 places ≡ 10 * m = omega (arith, last, ap (λ z. whole * z) (pow-suc 10 k)) in
    let scaled : 10 * (d * m) ≡ 10 * (unsigned_abs v.numerator * 10 ^ k) = omega (arith, ap (λ z. z * d) tenfold, value, ap (λ z. unsigned_abs v.numerator * z) (pow-suc 10 k)) in
    let covered : d * m ≡ unsigned_abs v.numerator * 10 ^ k = eq_of_mul-eq-mul_left 10 (lit< tt) _ _ scaled in
    p.least k refl (coprime_in v k (rw covered at (dvd-mul_right d m)))

-- the numeral with the least count of places
pub numeral_with : (v : Number) (k whole : ℕ) (places : List ℕ) → IsLeastPower v.denominator k → length places ≡ k → AllDigits 10 places → unsigned_abs v.numerator * 10 ^ k ≡ (whole * 10 ^ k + digits_value 10 places) * v.denominator → IsNumeralOf (sign_of v.numerator ++ decimal whole ++ pointed places) v
numeral_with v k whole places p count digits value = record {
  whole = whole;
  places = places;
  written = refl;
  digits = digits;
  last = least_last v k whole places p count value;
  value = rw count value;
}

divided_by : (p m : ℕ) → 0 < p → (m % p < p) × (m / p * p + m % p ≡ m)
divided_by p m some = (omega arith, omega arith)

numeral_by : (v : Number) → LeastPower v.denominator → (text : List ℕ) × IsNumeralOf text v
numeral_by v p =
    let n : ℕ = unsigned_abs v.numerator in
    let d : ℕ = v.denominator in
    let ten : ℕ = 10 ^ p.power in
    let m : ℕ = n * 10 ^ p.power / d in
    let exact : d * m ≡ n * 10 ^ p.power = mul-div_cancel' d (dvd_trans d p.is.covers (dvd-mul_left (10 ^ p.power) n)) in
    let parts = divided_by (10 ^ p.power) m (ten_pos p.power) in
    let value : n * 10 ^ p.power ≡ (m / 10 ^ p.power * 10 ^ p.power + digits_value 10 (padded p.power (m % 10 ^ p.power))) * d = rw (value-padded p.power (m % 10 ^ p.power) parts.0, parts.1) (omega (arith, exact)) in
    (_, numeral_with v p.power (m / 10 ^ p.power) (padded p.power (m % 10 ^ p.power)) p.is (length-padded p.power (m % 10 ^ p.power)) (digits-padded p.power (m % 10 ^ p.power)) value)

-- a number with a numeral has a denominator that divides a power of ten
pub covers_by : (text : List ℕ) (v : Number) → (x : IsNumeralOf text v) → v.denominator ∣ 10 ^ length x.places
covers_by text v x = coprime_in v (length x.places) (rw x.value (dvd-mul_left v.denominator _))

pub record TextAnswer (v : Number) : Type 0 where
  pub text : List ℕ
  pub is : IsTextOf text v

pub text_answer : (v : Number) → TextAnswer v
text_answer v =
    elim (decimal_or_not v.denominator v.lowest.positive) [
      | inl p ↦ let t = numeral_by v p in record { text = t.0; is = inl t.1 }
      | inr none ↦ record { text = fraction_text v; is = inr ((λ t x. none (length x.places) (covers_by t v x)), refl) }
    ]

pub text_once : (s t : List ℕ) (v : Number) → IsTextOf s v → IsTextOf t v → s ≡ t
text_once s t v (inl x) (inl y) = numeral_once s t v x y
text_once s t v (inl x) (inr y) = absurd (y.0 s x)
text_once s t v (inr x) (inl y) = absurd (x.0 t y)
text_once s t v (inr x) (inr y) = x.1 ∙ sym y.1
