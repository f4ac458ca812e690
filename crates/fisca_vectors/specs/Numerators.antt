-- The numerators of a vector, over one denominator for all lanes.
use Rattle.std.specs.Prelude.{◌≡◌, ℕ, ◌+◌, ◌*◌, ◌<◌, ◌≤◌, ◌^◌, ℤ, pos, ◌+ℤ◌, ◌-ℤ◌, ◌*ℤ◌, unsigned_abs, List, map, length, get_or, Result, Ok, Err, cond, int_lt, max, Bool}
use Rattle.std.specs.Ordering.{int_eq}
use Rattle.fisca_num.specs.declared.faults.NumFault.{NumFault}
use Rattle.fisca_num.specs.Rational.{Ratio}
use Rattle.fisca_num.specs.Number.{Number, zero_number, trunc_of}
use Rattle.fisca_num.specs.Operations.{number_of, sum_of, difference_of}
use Rattle.fisca_vectors.specs.Vectors.{lane, flag, lesser_of, greater_of}
use Rattle.fisca_vectors.specs.declared.operations.LaneOperation.{LaneOperation}
use Rattle.fisca_vectors.specs.declared.operations.LaneOperation.TheVariants.{Sum, Difference, Rest, Least, Greatest}

-- the numerator at a lane
abbrev pub at : List ℤ → ℕ → ℤ
at ns k = get_or ns k (pos 0)

abbrev pub pair : ℤ → ℕ → Ratio
pair n d = record { numerator = n; denominator = d }

abbrev pub number_or_zero : Result Number NumFault → Number
number_or_zero (Ok v) = v
number_or_zero (Err e) = zero_number

-- the number n / d, which there is where the parts are within 63 bits
unfoldable pub lane_of : ℕ → ℤ → Number
lane_of d n = number_or_zero (number_of (pair n d))

-- the numbers of a vector
abbrev pub lanes_of : ℕ → List ℤ → List Number
lanes_of d ns = map (lane_of d) ns

-- what holds of each vector: the bound bounds each numerator
pub record IsVector (denominator bound : ℕ) (numerators : List ℤ) : Type 0 where
  pub positive : 0 < denominator
  pub below : denominator < 2 ^ 63
  pub bound_below : bound < 2 ^ 63
  pub bounded : (k : ℕ) → k < length numerators → unsigned_abs (at numerators k) ≤ bound

-- the factors bring both denominators to a common one
pub record IsLevel (d e left right common : ℕ) : Type 0 where
  pub left_some : 0 < left
  pub right_some : 0 < right
  pub left_is : d * left ≡ common
  pub right_is : e * right ≡ common

-- the operation on numbers
abbrev pub on_numbers : LaneOperation → Number → Number → Result Number NumFault
on_numbers Sum = sum_of
on_numbers Difference = difference_of
on_numbers Rest = λ a b. difference_of b a
on_numbers Least = lesser_of
on_numbers Greatest = greater_of

-- the same on numerators over one denominator
abbrev pub on_numerators : LaneOperation → ℤ → ℤ → ℤ
on_numerators Sum x y = x +ℤ y
on_numerators Difference x y = x -ℤ y
on_numerators Rest x y = y -ℤ x
on_numerators Least x y = cond (int_lt y x) y x
on_numerators Greatest x y = cond (int_lt y x) x y

-- what bounds its size, by bounds of both numerators
abbrev pub size_of : LaneOperation → ℕ → ℕ → ℕ
size_of Sum a b = a + b
size_of Difference a b = a + b
size_of Rest a b = a + b
size_of Least a b = max a b
size_of Greatest a b = max a b

-- the same on numerators that factors bring over one denominator
abbrev pub on_brought : LaneOperation → ℕ → ℕ → ℤ → ℤ → ℤ
on_brought operation f g x y = on_numerators operation (x *ℤ pos f) (y *ℤ pos g)

-- the numerators `made` are `op` of those of each lane
pub record IsMade (op : ℤ → ℤ → ℤ) (left : List ℤ) (right : ℕ → ℤ) (made : List ℤ) : Type 0 where
  pub lanes : length made ≡ length left
  pub each : (k : ℕ) → k < length left → at made k ≡ op (at left k) (right k)

-- at each lane, the operation on the number of a and w of the lane is a number: that of c
pub record IsOperated (operation : LaneOperation) (a : List Number) (w : ℕ → Number) (c : List Number) : Type 0 where
  pub lanes : length c ≡ length a
  pub each : (k : ℕ) → k < length a → on_numbers operation (lane a k) (w k) ≡ Ok (lane c k)
