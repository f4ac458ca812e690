-- The text of a key that is asked for is read as that key.
use Rattle.std.proofs.Common.{◌≡◌, ℕ, ◌<◌, ◌^◌, true, false, eqb, List, [], ◌∷◌, length, Some, refl, ap, ◌∙◌, sym, rules}
use Rattle.std.proofs.lemmas.Bool.{lt-ltb, ne_eqb, and_parts, or_from, true≢false}
use Rattle.std.proofs.lemmas.Fmt.{decimal_nonempty, digits_decimal, digits_value-decimal}
use Rattle.std.proofs.lemmas.Str.Parse.{IsNumeralModel, numerals_by_value}
use Rattle.std.specs.Char.{is_ascii_digit}
use Rattle.std.specs.Fmt.{decimal}
use Rattle.std.specs.List.{list_all}
use Rattle.std.specs.Str.Parse.{digits_value}
use Rattle.fisca_columns.specs.Steps.Places.{member_at}
use Rattle.fisca_columns.specs.Written.{has_sign, at_sign}

digits : IsNumeralModel (λ ds. list_all is_ascii_digit ds ≡ true) (digits_value 10)
digits = numerals_by_value (λ ds. list_all is_ascii_digit ds ≡ true) (search rules)

no_at : (b : ℕ) → is_ascii_digit b ≡ true → eqb b at_sign ≡ false
no_at b h = ne_eqb b at_sign (λ e. true≢false (sym h ∙ ap is_ascii_digit e))

clear_digits : (t : List ℕ) → list_all is_ascii_digit t ≡ true → has_sign at_sign t ≡ false
clear_digits [] h = refl
clear_digits (b ∷ bs) h =
    let parts = and_parts (is_ascii_digit b) (list_all is_ascii_digit bs) h in
    or_from (eqb b at_sign) (has_sign at_sign bs) (no_at b parts.0) (clear_digits bs parts.1)

pub clear_decimal : (n : ℕ) → n < 2 ^ 64 → has_sign at_sign (decimal n) ≡ false
clear_decimal n small = clear_digits (decimal n) (digits_decimal digits n small)

pub place_of_decimal : (count n : ℕ) → n < count → n < 2 ^ 64 → member_at count (Some (decimal n)) ≡ Some n
place_of_decimal count n below small =
    rw (lt-ltb 0 (length (decimal n)) (decimal_nonempty n small), digits_decimal digits n small, digits_value-decimal digits n small, lt-ltb n count below) refl
