-- The count of units that is nearest to a number.
use Rattle.std.proofs.Common.{◌≡◌, ℕ, ◌+◌, ◌*◌, ◌/◌, ◌%◌, ◌^◌, ◌<◌, ◌≤◌, ◌++◌, ◌==◌, ◌∙◌, true, cond, [], ap, arith, unsigned_abs}
use Rattle.std.proofs.lemmas.Bool.{eqb-true}
use Rattle.std.proofs.lemmas.Nat.{div-add-mod', le-div}
use Rattle.fisca_forms.specs.Fixed.{IsNear, count_of, count_text, fixed_text, nearest_count}
use Rattle.fisca_num.specs.Number.{Number}
use Rattle.fisca_num.specs.Numeral.{sign_of}

-- twice the size and the denominator is so many times twice the denominator, and a rest
quotient : (size unit d : ℕ) → 0 < d → (2 * (size * unit) ≤ 2 * (nearest_count size d unit * d) + d) × (2 * (nearest_count size d unit * d) ≤ 2 * (size * unit) + d)
quotient size unit d some =
    let n = 2 * (size * unit) + d in
    let whole : n / (2 * d) * (2 * d) + n % (2 * d) ≡ n = div-add-mod' n (2 * d) in
    let below : n % (2 * d) < 2 * d = omega (arith, some) in
    (omega (arith, whole, below), omega (arith, whole))

pub near_law : (places : ℕ) (v : Number) → IsNear places v (count_of places v)
near_law places v = quotient (unsigned_abs v.numerator) (10 ^ places) v.denominator v.lowest.positive

pub away_law : (places count : ℕ) (v : Number) → IsNear places v count → count ≤ count_of places v
away_law places count v near =
    let some = v.lowest.positive in
    let second = near.1 in
    le-div count (2 * (unsigned_abs v.numerator * 10 ^ places) + v.denominator) (2 * v.denominator) (omega (arith, some)) (omega (arith, second))

pub zero_law : (places : ℕ) (v : Number) → (count_of places v == 0) ≡ true → fixed_text places v ≡ count_text places 0
zero_law places v none =
    ap (λ zero. cond zero [] (sign_of v.numerator) ++ count_text places (count_of places v)) none ∙ ap (count_text places) (eqb-true (count_of places v) 0 none)
