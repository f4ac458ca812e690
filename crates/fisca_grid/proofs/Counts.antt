-- `parse` at a text of digits, as the definition of a count.
use Rattle.std.proofs.Common.{◌≡◌, ℕ, ◌<◌, ◌≤◌, ◌^◌, ⊎_elim, true, List, [], ◌∷◌, length, Some, Result, Ok, Err, refl, ap, arith, rules, ltb}
use Rattle.std.proofs.lemmas.Bool.{le-ltb, cases_lt}
use Rattle.std.proofs.lemmas.Str.Parse.{IsNumeralModel, numerals_by_value, parse_digits}
use Rattle.std.specs.Char.{is_ascii_digit}
use Rattle.std.specs.List.{list_all}
use Rattle.std.specs.Result.{result_ok}
use Rattle.std.specs.Str.Parse.{ParsesUnsigned, digits_value}
use Rattle.fisca_grid.specs.Words.{count_of}

digits : IsNumeralModel (λ ds. list_all is_ascii_digit ds ≡ true) (digits_value 10)
digits = numerals_by_value (λ ds. list_all is_ascii_digit ds ≡ true) (search rules)

pub count_is : {E : Type 0} (bs : List ℕ) (r : Result ℕ E) → ParsesUnsigned 64 10 bs r → list_all is_ascii_digit bs ≡ true → result_ok r ≡ count_of bs
count_is {E} [] (Ok x) h d = absurd (omega (arith, (parse_digits digits {E = E} 64 [] (Ok x) h d).0.0))
count_is {E} [] (Err e) h d = refl
count_is {E} (b ∷ bs) (Ok x) h d =
    let p = parse_digits digits {E = E} 64 (b ∷ bs) (Ok x) h d in
    let small : ltb (digits_value 10 (b ∷ bs)) (2 ^ 64) ≡ true = grind (arith, p.0.1) in
    rw (d, small) (ap Some p.1)
count_is {E} (b ∷ bs) (Err e) h d =
    let p = parse_digits digits {E = E} 64 (b ∷ bs) (Err e) h d in
    let some : 0 < length (b ∷ bs) = omega arith in
    let wide : 2 ^ 64 ≤ digits_value 10 (b ∷ bs) = ⊎_elim (λ l. absurd (p (some, l))) (λ l. l) (cases_lt (digits_value 10 (b ∷ bs)) (2 ^ 64)) in
    rw (d, le-ltb (digits_value 10 (b ∷ bs)) (2 ^ 64) wide) refl
