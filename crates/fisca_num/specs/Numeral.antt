-- The texts of numbers.
use Rattle.std.specs.Prelude.{◌≡◌, ◌≢◌, ℕ, ◌+◌, ◌*◌, ◌^◌, ℤ, pos, negsuc, unsigned_abs, List, [], ◌∷◌, ◌++◌, length, ◌⊎◌}
use Rattle.std.specs.Fmt.{decimal, signed_decimal}
use Rattle.std.specs.Str.Parse.{AllDigits, digits_value}
use Rattle.fisca_num.specs.Characters.{minus, point, slash, zero_digit}
use Rattle.fisca_num.specs.Number.{Number}

-- `-` below 0
abbrev pub sign_of : ℤ → List ℕ
sign_of (pos n) = []
sign_of (negsuc n) = minus ∷ []

-- a point and the places, where there are any
abbrev pub pointed : List ℕ → List ℕ
pointed [] = []
pointed (c ∷ cs) = point ∷ c ∷ cs

-- a decimal text of v: its sign, its whole part, and places that do not end in 0
pub record IsNumeralOf (text : List ℕ) (v : Number) : Type 0 where
  pub whole : ℕ
  pub places : List ℕ
  pub written : text ≡ sign_of v.numerator ++ decimal whole ++ pointed places
  pub digits : AllDigits 10 places
  pub last : (front : List ℕ) → places ≢ front ++ (zero_digit ∷ [])
  pub value : unsigned_abs v.numerator * 10 ^ length places ≡ (whole * 10 ^ length places + digits_value 10 places) * v.denominator

-- `n/d`
abbrev pub fraction_text : Number → List ℕ
fraction_text v = signed_decimal v.numerator ++ slash ∷ decimal v.denominator

-- the text of v is its numeral where it has one, else `n/d`
abbrev pub IsTextOf : List ℕ → Number → Type 0
IsTextOf text v = IsNumeralOf text v ⊎ (((t : List ℕ) → ¬ IsNumeralOf t v) × (text ≡ fraction_text v))
