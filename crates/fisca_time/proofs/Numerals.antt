-- Reading decimal digits from the left, with a limit on the number.
use Rattle.std.proofs.Common.{◌≡◌, ℕ, ◌+◌, ◌*◌, ◌-◌, ◌≤◌, ◌<◌, ◌^◌, min, cond, Option, Some, None, MatchOption, IfSome, List, [], ◌∷◌, arith, drop, get_or, length, drop-cons, refl, inl, inr, ap, ◌∙◌, add-one, Bool, true, false}
use Rattle.std.proofs.lemmas.Bool.{cases_lt, and_right, and_from, eq-eqb}
use Rattle.std.proofs.Math.Dec.{eqb}
use Rattle.std.proofs.Math.Nat.{pow-le-pow_right}
use Rattle.std.proofs.lemmas.Str.Parse.{IsNumeralModel, numerals_by_value, tells_all_ascii_digits, digits_value_short}
use Rattle.std.proofs.lemmas.Bool.Decides.{nat_tests}
use Rattle.std.specs.Char.{is_ascii_digit, digit_value}
use Rattle.std.specs.Str.{all_ascii_digits}
use Rattle.std.specs.Str.Parse.{digits_value, digits_value_after}
use Rattle.fisca_time.specs.Pieces.{is_numeral}

-- std's lemmas on numerals, for texts that pass the test of digits
pub decimal_numerals : IsNumeralModel (λ ds. all_ascii_digits ds ≡ true) (digits_value 10)
decimal_numerals = numerals_by_value _ tells_all_ascii_digits

-- further digits do not make a number smaller
pub digits_value_after-grows : (n : ℕ) (cs : List ℕ) → n ≤ digits_value_after 10 n cs
digits_value_after-grows n [] = omega arith
digits_value_after-grows n (c ∷ cs) = omega (arith, digits_value_after-grows (n * 10 + digit_value c) cs)

-- a limit on the number so far does not show below the limit
pub digits_value_after-capped : (cap n : ℕ) (cs : List ℕ) → min cap (digits_value_after 10 (min n cap) cs) ≡ min cap (digits_value_after 10 n cs)
digits_value_after-capped cap n cs =
    elim (cases_lt n cap) [
      | inl h ↦ let e : min n cap ≡ n = omega arith in rw e refl
      | inr h ↦ let e : min n cap ≡ cap = omega arith in rw e (omega (arith, digits_value_after-grows cap cs, digits_value_after-grows n cs))
    ]

pub digit_value-digit : (c : ℕ) → is_ascii_digit c ≡ true → digit_value c ≡ c - 48
digit_value-digit c is = grind (arith, nat_tests)

-- the bytes from place i on, its byte first
front : (xs : List ℕ) (i : ℕ) → i < length xs → drop i xs ≡ get_or xs i 0 ∷ drop (i + 1) xs
front xs i h = rw (add-one i, drop-cons xs i 0) refl

after_digit : (c n cap m : ℕ) (rest : List ℕ) (all : Bool) → is_ascii_digit c ≡ true → all_ascii_digits (c ∷ rest) ≡ all → min cap (digits_value_after 10 n (c ∷ rest)) ≡ m →
    (all_ascii_digits rest ≡ all) × (min cap (digits_value_after 10 (min (10 * n + (c - 48)) cap) rest) ≡ m)
after_digit c n cap m rest all is a b =
    let e : 10 * n + (c - 48) ≡ n * 10 + digit_value c = omega (arith, digit_value-digit c is) in
    (rw is at a, rw e (digits_value_after-capped cap (n * 10 + digit_value c) rest ∙ b))

-- a digit is read: the rest are digits where all were, and write the same number after it
pub digit_step : (xs : List ℕ) (i n cap m : ℕ) (all : Bool) → i < length xs → is_ascii_digit (get_or xs i 0) ≡ true → all_ascii_digits (drop i xs) ≡ all → min cap (digits_value_after 10 n (drop i xs)) ≡ m →
    (all_ascii_digits (drop (i + 1) xs) ≡ all) × (min cap (digits_value_after 10 (min (10 * n + (get_or xs i 0 - 48)) cap) (drop (i + 1) xs)) ≡ m)
digit_step xs i n cap m all h is a b = after_digit (get_or xs i 0) n cap m (drop (i + 1) xs) all is (rw (front xs i h) at a) (rw (front xs i h) at b)

-- what a reader of digits answers is the number of a text with that many digits
pub numeral_from_number : (o : Option ℕ) (count : ℕ) (text : List ℕ) → count ≤ 4 → length text ≡ count
    → MatchOption o (all_ascii_digits text ≡ false) (λ n. (all_ascii_digits text ≡ true) × (n ≡ min 10_000 (digits_value 10 text)))
    → (o ≡ cond (is_numeral count text) (Some (digits_value 10 text)) None) × IfSome o (λ n. n < 10 ^ count)
numeral_from_number None count text short is h = (rw (and_right (eqb (length text) count) (all_ascii_digits text) h) refl, tt)
numeral_from_number (Some n) count text short is h =
    let small : digits_value 10 text < 10 ^ count = digits_value_short decimal_numerals text count h.0 (omega arith) in
    let room : 10 ^ count ≤ 10 ^ 4 = pow-le-pow_right (omega arith) short in
    let e : n ≡ digits_value 10 text = omega (arith, h.1, small, room) in
    (rw (and_from (eqb (length text) count) (all_ascii_digits text) (eq-eqb (length text) count is) h.0) (ap Some e), rw e small)
