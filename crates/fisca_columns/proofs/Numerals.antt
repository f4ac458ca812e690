-- Places that are too large for a word.
use Rattle.std.proofs.Common.{◌≡◌, ℕ, ◌<◌, ◌≤◌, ◌^◌, ⊎_elim, true, List, [], ◌∷◌, length, Some, None, Err, refl, arith, rules}
use Rattle.std.proofs.lemmas.Bool.{le-ltb, lt-ltb, cases_lt}
use Rattle.std.proofs.lemmas.Str.Parse.{IsNumeralModel, numerals_by_value, parse_digits}
use Rattle.std.specs.Char.{is_ascii_digit}
use Rattle.std.specs.List.{list_all}
use Rattle.std.specs.Str.Parse.{ParsesUnsigned, digits_value}
use Rattle.fisca_columns.specs.Steps.Places.{member_at}

digits : IsNumeralModel (λ ds. list_all is_ascii_digit ds ≡ true) (digits_value 10)
digits = numerals_by_value (λ ds. list_all is_ascii_digit ds ≡ true) (search rules)

pub none_so_large : {E : Type 0} (count : ℕ) (bs : List ℕ) (e : E) → count < 2 ^ 32 → list_all is_ascii_digit bs ≡ true → ParsesUnsigned 32 10 bs (Err e)
    → None ≡ member_at count (Some bs)
none_so_large {E} count [] e few d h = refl
none_so_large {E} count (b ∷ bs) e few d h =
    let p = parse_digits digits {E = E} 32 (b ∷ bs) (Err e) h d in
    let some : 0 < length (b ∷ bs) = omega arith in
    let wide : 2 ^ 32 ≤ digits_value 10 (b ∷ bs) = ⊎_elim (λ l. absurd (p (some, l))) (λ l. l) (cases_lt (digits_value 10 (b ∷ bs)) (2 ^ 32)) in
    let above : count ≤ digits_value 10 (b ∷ bs) = omega (arith, wide, few) in
    rw (d, lt-ltb 0 (length (b ∷ bs)) some, le-ltb (digits_value 10 (b ∷ bs)) count above) refl
