-- The digits after the point.
use Rattle.std.specs.Prelude.{◌≡◌, ℕ, ◌*◌, ◌^◌, List, length}
use Rattle.std.specs.Str.Parse.{AllDigits, digits_value}
use Rattle.fisca_num.specs.Numeral.{pointed}

-- the text is a point and the count places of rest / denominator, where it has any
pub record IsPart (rest denominator count : ℕ) (text : List ℕ) : Type 0 where
  pub places : List ℕ
  pub written : text ≡ pointed places
  pub digits : AllDigits 10 places
  pub size : length places ≡ count
  pub value : rest * 10 ^ count ≡ digits_value 10 places * denominator
