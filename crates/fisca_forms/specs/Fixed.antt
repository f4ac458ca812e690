-- Numbers to so many places.
use Rattle.std.specs.Prelude.{ℕ, zero, suc, ◌+◌, ◌*◌, ◌/◌, ◌%◌, ◌^◌, ◌≤◌, ◌==◌, ◌++◌, ◌∷◌, List, [], if◌then◌else◌, unsigned_abs}
use Rattle.std.specs.Fmt.{decimal}
use Rattle.fisca_num.specs.Characters.{zero_digit}
use Rattle.fisca_num.specs.Number.{Number}
use Rattle.fisca_num.specs.Numeral.{pointed, sign_of}

-- how many units of 1 / unit are nearest to size / denominator, of two that are equally near the more
abbrev pub nearest_count : ℕ → ℕ → ℕ → ℕ
nearest_count size denominator unit = (2 * (size * unit) + denominator) / (2 * denominator)

-- the same of a number, without its sign
abbrev pub count_of : ℕ → Number → ℕ
count_of places v = nearest_count (unsigned_abs v.numerator) v.denominator (10 ^ places)

-- a count is at most half a unit off a number
abbrev pub IsNear : ℕ → Number → ℕ → Type 0
IsNear places v count =
    (2 * (unsigned_abs v.numerator * 10 ^ places) ≤ 2 * (count * v.denominator) + v.denominator) × (2 * (count * v.denominator) ≤ 2 * (unsigned_abs v.numerator * 10 ^ places) + v.denominator)

-- so many digits of a number below 10 ^ places
abbrev pub places_of : ℕ → ℕ → List ℕ
places_of zero rest = []
places_of (suc places) rest = (zero_digit + rest / 10 ^ places % 10) ∷ places_of places rest

-- a count of units of 10 ^ -places, with just so many places
abbrev pub count_text : ℕ → ℕ → List ℕ
count_text places count = decimal (count / 10 ^ places) ++ pointed (places_of places (count % 10 ^ places))

-- the nearest multiple of 10 ^ -places, halves away from 0, with just so many places; 0 has no sign
abbrev pub fixed_text : ℕ → Number → List ℕ
fixed_text places v = (if count_of places v == 0 then [] else sign_of v.numerator) ++ count_text places (count_of places v)
