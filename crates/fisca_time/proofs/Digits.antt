-- Numbers in two digits, and in four.
use Rattle.std.proofs.Common.{◌≡◌, ℕ, zero, suc, ◌+◌, ◌*◌, ◌/◌, ◌%◌, ◌<◌, ◌^◌, List, [], ◌∷◌, ◌++◌, arith, refl, true, ap, sym, ◌∙◌, get_or, length}
use Rattle.std.proofs.lemmas.Bool.Decides.{nat_tests}
use Rattle.std.proofs.lemmas.Fmt.{decimal-digits_value}
use Rattle.std.specs.Fmt.{decimal}
use Rattle.std.specs.Char.{is_ascii_digit, digit_value}
use Rattle.std.specs.Str.{all_ascii_digits}
use Rattle.std.specs.Str.Parse.{digits_value}
use Rattle.fisca_time.proofs.Numerals.{decimal_numerals, digit_value-digit}
use Rattle.fisca_time.specs.PeriodText.{digits_to}

glyph : (d : ℕ) → d < 10 → is_ascii_digit (48 + d) ≡ true
glyph d h = grind (arith, nat_tests)

worth : (d : ℕ) → d < 10 → digit_value (48 + d) ≡ d
worth d h = digit_value-digit (48 + d) (glyph d h) ∙ omega arith

-- digits of which the first is no zero are a number's own
own_digits : (n : ℕ) (ds : List ℕ) → all_ascii_digits ds ≡ true → 0 < length ds → (get_or ds 0 0 ≡ 48 → length ds ≡ 1) → digits_value 10 ds ≡ n → n < 2 ^ 64 → decimal n ≡ ds
own_digits n ds all some first is small =
    ap decimal (sym is) ∙ decimal-digits_value decimal_numerals ds all some first (rw is small)

in_one : (n a : ℕ) → a < 10 → n ≡ a → decimal n ≡ (48 + a) ∷ []
in_one n a h is =
    own_digits n ((48 + a) ∷ []) (rw (glyph a h) refl) (omega arith) (λ _. refl) (omega (arith, worth a h)) (omega arith)

in_two : (n a b : ℕ) → suc a < 10 → b < 10 → n ≡ 10 * suc a + b → decimal n ≡ (48 + suc a) ∷ (48 + b) ∷ []
in_two n a b h k is =
    own_digits n ((48 + suc a) ∷ (48 + b) ∷ []) (rw (glyph (suc a) h, glyph b k) refl) (omega arith) (λ e. omega (arith, e)) (omega (arith, worth (suc a) h, worth b k)) (omega arith)

in_three : (n a b c : ℕ) → suc a < 10 → b < 10 → c < 10 → n ≡ 100 * suc a + 10 * b + c → decimal n ≡ (48 + suc a) ∷ (48 + b) ∷ (48 + c) ∷ []
in_three n a b c h k l is =
    own_digits n ((48 + suc a) ∷ (48 + b) ∷ (48 + c) ∷ []) (rw (glyph (suc a) h, glyph b k, glyph c l) refl) (omega arith) (λ e. omega (arith, e)) (omega (arith, worth (suc a) h, worth b k, worth c l)) (omega arith)

in_four : (n a b c d : ℕ) → suc a < 10 → b < 10 → c < 10 → d < 10 → n ≡ 1000 * suc a + 100 * b + 10 * c + d → decimal n ≡ (48 + suc a) ∷ (48 + b) ∷ (48 + c) ∷ (48 + d) ∷ []
in_four n a b c d h k l m is =
    own_digits n ((48 + suc a) ∷ (48 + b) ∷ (48 + c) ∷ (48 + d) ∷ []) (rw (glyph (suc a) h, glyph b k, glyph c l, glyph d m) refl) (omega arith) (λ e. omega (arith, e)) (omega (arith, worth (suc a) h, worth b k, worth c l, worth d m)) (omega arith)

two_from : (n a b : ℕ) → a < 10 → b < 10 → n ≡ 10 * a + b → digits_to 2 n ≡ (48 + a) ∷ (48 + b) ∷ []
two_from n zero b h k is = rw (in_one n b k (omega arith)) refl
two_from n (suc a) b h k is = rw (in_two n a b h k is) refl

four_from : (n a b c d : ℕ) → a < 10 → b < 10 → c < 10 → d < 10 → n ≡ 1000 * a + 100 * b + 10 * c + d → digits_to 4 n ≡ (48 + a) ∷ (48 + b) ∷ (48 + c) ∷ (48 + d) ∷ []
four_from n zero zero zero d h k l m is = rw (in_one n d m (omega arith)) refl
four_from n zero zero (suc c) d h k l m is = rw (in_two n c d l m (omega arith)) refl
four_from n zero (suc b) c d h k l m is = rw (in_three n b c d k l m (omega arith)) refl
four_from n (suc a) b c d h k l m is = rw (in_four n a b c d h k l m is) refl

pub two_digits : (n : ℕ) → n < 100 → digits_to 2 n ≡ (48 + n / 10) ∷ (48 + n % 10) ∷ []
two_digits n h = two_from n (n / 10) (n % 10) (omega arith) (omega arith) (omega arith)

-- a year is written as its century and the year in it
pub four_digits : (n : ℕ) → n < 10_000 → digits_to 4 n ≡ digits_to 2 (n / 100) ++ digits_to 2 (n % 100)
four_digits n h =
    let a = n / 100 / 10 in
    let b = n / 100 % 10 in
    let c = n % 100 / 10 in
    let d = n % 100 % 10 in
    four_from n a b c d (omega arith) (omega arith) (omega arith) (omega arith) (omega arith)
    ∙ rw (two_digits (n / 100) (omega arith), two_digits (n % 100) (omega arith)) refl
