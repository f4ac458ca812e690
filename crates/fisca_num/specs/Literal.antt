-- Decimal literals: an optional sign, then digits with at most one point. `_` between two digits is ignored.
use Rattle.std.specs.Prelude.{◌≡◌, ℕ, ◌^◌, ◌<◌, ◌==◌, ◌&&◌, ◌||◌, Bool, true, false, not, if◌then◌else◌, List, [], ◌∷◌, ◌++◌, length, take, drop, min, filter, Result, Err}
use Rattle.std.specs.Char.{is_ascii_digit}
use Rattle.std.specs.List.{before_first, after_first, list_all}
use Rattle.std.specs.Str.Parse.{digits_value}
use Rattle.fisca_num.specs.declared.faults.NumFault.{NumFault}
use Rattle.fisca_num.specs.declared.faults.NumFault.TheVariants.{TooWide, NotANumber}
use Rattle.fisca_num.specs.Characters.{plus, minus, point, zero_digit, underscore}
use Rattle.fisca_num.specs.Rational.{Ratio, signed}
use Rattle.fisca_num.specs.Number.{Number}
use Rattle.fisca_num.specs.Operations.{number_of}

abbrev pub is_point : ℕ → Bool
is_point c = c == point

abbrev pub is_minus : ℕ → Bool
is_minus c = c == minus

abbrev pub is_zero_digit : ℕ → Bool
is_zero_digit c = c == zero_digit

-- the text begins with `-`
abbrev pub is_negative : List ℕ → Bool
is_negative [] = false
is_negative (c ∷ cs) = is_minus c

-- the text without its sign
abbrev pub unsigned_part : List ℕ → List ℕ
unsigned_part [] = []
unsigned_part (c ∷ cs) = if is_minus c || (c == plus) then cs else c ∷ cs

-- what stands before the point, and after it
abbrev pub whole_part : List ℕ → List ℕ
whole_part text = before_first is_point (unsigned_part text)

abbrev pub place_part : List ℕ → List ℕ
place_part text = after_first is_point (unsigned_part text)

abbrev mutual
  -- one digit or more, with `_` only between two of them
  pub are_digits : List ℕ → Bool
  are_digits [] = false
  are_digits (c ∷ cs) = is_ascii_digit c && may_follow_digit cs

  -- nothing, more digits, or `_` and more digits
  pub may_follow_digit : List ℕ → Bool
  may_follow_digit [] = true
  may_follow_digit (c ∷ cs) = (is_ascii_digit c && may_follow_digit cs) || ((c == underscore) && are_digits cs)

-- the same, or nothing
abbrev pub are_digits_or_none : List ℕ → Bool
are_digits_or_none [] = true
are_digits_or_none (c ∷ cs) = are_digits (c ∷ cs)

-- the digits of a part, without its `_`
abbrev pub digits_in : List ℕ → List ℕ
digits_in = filter is_ascii_digit

-- no 0 stands before other digits
abbrev pub has_no_leading_zero : List ℕ → Bool
has_no_leading_zero (c ∷ d ∷ ds) = not (is_zero_digit c)
has_no_leading_zero ds = true

-- what may stand before the point
abbrev pub is_whole : List ℕ → Bool
is_whole cs = are_digits_or_none cs && has_no_leading_zero (digits_in cs)

abbrev pub is_empty : List ℕ → Bool
is_empty [] = true
is_empty (c ∷ cs) = false

-- the parts of a literal: one of them may be empty
abbrev pub is_form : List ℕ → List ℕ → Bool
is_form whole places = is_whole whole && are_digits_or_none places && not (is_empty whole && is_empty places)

-- all places after the 18th are 0
abbrev pub are_few : List ℕ → Bool
are_few places = list_all is_zero_digit (drop 18 places)

-- the value of digits before and after a point, with a sign
abbrev pub digits_ratio : Bool → List ℕ → List ℕ → Ratio
digits_ratio negative whole places = record {
  numerator = signed negative (digits_value 10 (whole ++ places));
  denominator = 10 ^ length places;
}

-- the number that the parts write: the form is judged first, then the places, then the limits
unfoldable pub number_of_parts : Bool → List ℕ → List ℕ → Result Number NumFault
number_of_parts negative whole places =
    if is_form whole places then (if are_few (digits_in places) then number_of (digits_ratio negative (digits_in whole) (digits_in places)) else Err TooWide) else Err NotANumber

-- the number that a text writes
unfoldable pub number_of_literal : List ℕ → Result Number NumFault
number_of_literal text = number_of_parts (is_negative text) (whole_part text) (place_part text)

-- what is read of the places: the number that the first 18 write, their count, and whether the others are 0
pub record IsRead (places : List ℕ) (number count : ℕ) (few : Bool) : Type 0 where
  pub number_is : number ≡ digits_value 10 (take 18 places)
  pub count_is : count ≡ min 18 (length places)
  pub few_is : few ≡ are_few places
  pub small : number < 10 ^ count
