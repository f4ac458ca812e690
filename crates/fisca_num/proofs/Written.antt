-- The text of a number, as it is written.
use Rattle.std.proofs.Common.{lit<, ◌≡◌, ℕ, zero, suc, pos, negsuc, ◌+◌, ◌*◌, ◌/◌, ◌%◌, ◌^◌, ◌<◌, ◌≤◌, ℤ, unsigned_abs, List, [], ◌∷◌, ◌++◌, length, take, arith, refl, ap, sym, ◌∙◌, append_assoc, inl, inr}
use Rattle.std.specs.Int.{◌∣◌}
use Rattle.std.specs.Fmt.{decimal, signed_decimal}
use Rattle.std.specs.Str.{IsUtf8, IsAscii}
use Rattle.std.specs.Str.Parse.{AllDigits, digits_value}
use Rattle.std.proofs.lemmas.Str.{IsUtf8-from_ascii, IsAscii-append, IsAscii-take}
use Rattle.std.proofs.lemmas.Fmt.{IsAscii-decimal, IsAscii-signed, IsAscii-from_digits}
use Rattle.std.proofs.lemmas.Bool.{cases_lt}
use Rattle.std.proofs.lemmas.List.{append-nil}
use lib.Signed.{mag}
use Rattle.fisca_num.specs.Characters.{minus, zero_digit}
use Rattle.std.proofs.Math.Nat.{mod-add-div', mul-le-mul_left}
use Rattle.fisca_num.specs.Digits.{ten_pos}
use Rattle.fisca_num.specs.Number.{Number}
use Rattle.fisca_num.specs.Numeral.{sign_of, pointed, fraction_text, IsNumeralOf, IsTextOf}
use Rattle.fisca_num.specs.Part.{IsPart}
use Rattle.fisca_num.specs.Tens.{IsLeastPower}
use Rattle.fisca_num.specs.Text.{text_of, is_text_of, only_text_of}
use Rattle.fisca_num.specs.TextAnswer.{numeral_with, covers_by}

whole_of : (size d k rest p : ℕ) → rest ≡ size % d → 0 < d → rest * 10 ^ k ≡ p * d → size * 10 ^ k ≡ (size / d * 10 ^ k + p) * d
whole_of size d k rest p e some h = omega (arith, h, ap (λ z. z * 10 ^ k) (mod-add-div' size d), ap (λ z. z * 10 ^ k) e)

-- a sign, the whole part and the places are the text
pub written_numeral : (v : Number) (n : ℤ) (d k size : ℕ) (part unsigned text : List ℕ) → n ≡ v.numerator → d ≡ v.denominator → IsLeastPower v.denominator k → size ≡ unsigned_abs n → IsPart (size % d) d k part → unsigned ≡ decimal (size / d) ++ part → text ≡ sign_of n ++ unsigned → text ≡ text_of v
written_numeral v n d k size part unsigned text en ed least es p eu et =
    let size_is : size ≡ unsigned_abs v.numerator = es ∙ ap unsigned_abs en in
    let value : size * 10 ^ k ≡ (size / v.denominator * 10 ^ k + digits_value 10 p.places) * v.denominator = rw ed at (whole_of size d k (size % d) (digits_value 10 p.places) refl (rw ed v.lowest.positive) p.value) in
    let numeral : IsNumeralOf (sign_of v.numerator ++ decimal (size / v.denominator) ++ pointed p.places) v = numeral_with v k (size / v.denominator) p.places least p.size p.digits (sym (ap (λ z. z * 10 ^ k) size_is) ∙ value) in
    let same : text ≡ sign_of v.numerator ++ decimal (size / v.denominator) ++ pointed p.places = et ∙ rw (eu, p.written, en, ed) (sym (append_assoc (sign_of v.numerator) (decimal (size / v.denominator)) (pointed p.places))) in
    same ∙ only_text_of v _ (inl numeral)

signed_whole : (n : ℤ) → signed_decimal n ≡ sign_of n ++ decimal (unsigned_abs n) ++ pointed []
signed_whole (pos n) = sym (append-nil (decimal n))
signed_whole (negsuc n) = sym (append-nil (minus ∷ decimal (suc n)))

-- the digits of a whole number, with its sign, are its text
pub written_whole : (v : Number) → v.denominator ≡ 1 → signed_decimal v.numerator ≡ text_of v
written_whole v one =
    let size = unsigned_abs v.numerator in
    let value : size * 10 ^ 0 ≡ (size * 10 ^ 0 + 0) * v.denominator = rw one (omega arith) in
    let numeral : IsNumeralOf (signed_decimal v.numerator) v = record {
      whole = size;
      places = [];
      written = signed_whole v.numerator;
      digits = tt;
      last = λ front same. no_end front same;
      value = value;
    } in
    only_text_of v (signed_decimal v.numerator) (inl numeral)
  where
    no_end : (front : List ℕ) → [] ≡ front ++ (zero_digit ∷ []) → ⊥
    no_end [] same = cc
    no_end (c ∷ front) same = cc

pub no_numeral : (v : Number) → ((k : ℕ) → v.denominator ∣ 10 ^ k → ⊥) → fraction_text v ≡ text_of v
no_numeral v none = only_text_of v (fraction_text v) (inr ((λ t x. none (length x.places) (covers_by t v x)), refl))

ascii_cons : (c : ℕ) (cs : List ℕ) → c < 128 → IsAscii cs → IsAscii (c ∷ cs)
ascii_cons c cs h k zero = h
ascii_cons c cs h k (suc i) = k i

ascii_nil : IsAscii []
ascii_nil i = lit< tt

ascii_sign : (n : ℤ) → IsAscii (sign_of n)
ascii_sign (pos n) = ascii_nil
ascii_sign (negsuc n) = ascii_cons 45 [] (lit< tt) ascii_nil

ascii_pointed : (ps : List ℕ) → AllDigits 10 ps → IsAscii (pointed ps)
ascii_pointed [] h = ascii_nil
ascii_pointed (p ∷ ps) h = ascii_cons 46 (p ∷ ps) (lit< tt) (IsAscii-from_digits (p ∷ ps) h)

pub whole_below : (v : Number) (whole ten p : ℕ) → 0 < ten → unsigned_abs v.numerator * ten ≡ (whole * ten + p) * v.denominator → whole < 2 ^ 64
whole_below v whole ten p some e =
    let above = v.within.above in
    let all : (whole * ten + p) * 1 ≤ (whole * ten + p) * v.denominator = mul-le-mul_left (whole * ten + p) v.lowest.positive in
    elim (cases_lt (unsigned_abs v.numerator) whole) [
      | inl h ↦ absurd (omega (arith, all, e, mul-le-mul_left ten h))
      | inr h ↦ omega arith
    ]

mag_below : (n : ℤ) → unsigned_abs n < 2 ^ 63 → mag n < 2 ^ 63
mag_below (pos n) h = h
mag_below (negsuc n) h = omega arith

ascii_text : (v : Number) (t : List ℕ) → IsTextOf t v → IsAscii t
ascii_text v t (inl x) = rw x.written (IsAscii-append _ _ (IsAscii-append _ _ (ascii_sign v.numerator) (IsAscii-decimal x.whole (whole_below v x.whole (10 ^ length x.places) (digits_value 10 x.places) (ten_pos (length x.places)) x.value))) (ascii_pointed x.places x.digits))
ascii_text v t (inr x) =
    let above = v.within.above in
    let below = v.within.below in
    rw x.1 (IsAscii-append _ _ (IsAscii-signed v.numerator (mag_below v.numerator v.within.above)) (ascii_cons 47 _ (lit< tt) (IsAscii-decimal v.denominator (omega arith))))

pub utf8_tail : (v : Number) (n : ℕ) (tail : List ℕ) → tail ≡ text_of v → IsUtf8 (take n tail)
utf8_tail v n tail e = rw e (IsUtf8-from_ascii _ (IsAscii-take _ n (ascii_text v (text_of v) (is_text_of v))))
