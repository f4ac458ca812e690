-- Vectors of numbers. What an operation gives at each lane is what it gives of the numbers there.
use Rattle.std.specs.Prelude.{◌≡◌, ℕ, ◌<◌, List, length, get_or, slice_index, Result, Ok, Bool, false, not, cond}
use Rattle.std.specs.declared.cmp.Ordering.{Ordering}
use Rattle.std.specs.Ordering.{ord_min, ord_max, is_lt, is_gt, is_eq}
use Rattle.fisca_num.specs.declared.faults.NumFault.{NumFault}
use Rattle.fisca_num.specs.Number.{Number, zero_number, number_cmp}
use Rattle.fisca_vectors.specs.declared.comparison.LaneComparison.{LaneComparison}
use Rattle.fisca_vectors.specs.declared.comparison.LaneComparison.TheVariants.{AtLeast, AtMost, Equal, NotEqual, Above, Below}

-- the number at a lane
abbrev pub lane : List Number → ℕ → Number
lane a k = get_or a k zero_number

-- the flag at a lane
abbrev pub flag : List Bool → ℕ → Bool
flag m k = get_or m k false

-- at each lane, f of the numbers of a and b is a number: that of c
pub record IsLanewise (f : Number → Number → Result Number NumFault) (a b c : List Number) : Type 0 where
  pub lanes : length c ≡ length a
  pub each : (k : ℕ) → k < length a → f (lane a k) (lane b k) ≡ Ok (lane c k)

-- at each lane, f of the number of a is a number: that of c
pub record IsOfEach (f : Number → Result Number NumFault) (a c : List Number) : Type 0 where
  pub lanes : length c ≡ length a
  pub each : (k : ℕ) → k < length a → f (lane a k) ≡ Ok (lane c k)

abbrev pub lesser_of : Number → Number → Result Number NumFault
lesser_of a b = Ok (ord_min number_cmp a b)

abbrev pub greater_of : Number → Number → Result Number NumFault
greater_of a b = Ok (ord_max number_cmp a b)

-- whether a number that stands so to another meets the comparison
abbrev pub is_met_by : LaneComparison → Ordering → Bool
is_met_by AtLeast o = not (is_lt o)
is_met_by AtMost o = not (is_gt o)
is_met_by Equal o = is_eq o
is_met_by NotEqual o = not (is_eq o)
is_met_by Above o = is_gt o
is_met_by Below o = is_lt o

-- at each lane, the flag says whether the number of a stands so to that of b
pub record IsCompared (comparison : LaneComparison) (a b : List Number) (flags : List Bool) : Type 0 where
  pub lanes : length flags ≡ length a
  pub each : (k : ℕ) → k < length a → flag flags k ≡ is_met_by comparison (number_cmp (lane a k) (lane b k))

-- at each lane, the flag says whether the number of a stands so to v
pub record IsComparedWith (comparison : LaneComparison) (a : List Number) (v : Number) (flags : List Bool) : Type 0 where
  pub lanes : length flags ≡ length a
  pub each : (k : ℕ) → k < length a → flag flags k ≡ is_met_by comparison (number_cmp (lane a k) v)

-- at each lane, c has the number of a where the flag is true, and that of b elsewhere
pub record IsChosen (flags : List Bool) (a b c : List Number) : Type 0 where
  pub lanes : length c ≡ length a
  pub each : (k : ℕ) → k < length a → lane c k ≡ cond (flag flags k) (lane a k) (lane b k)

-- c has the numbers that a has at these lanes
pub record IsGathered (places : List ℕ) (a c : List Number) : Type 0 where
  pub lanes : length c ≡ length places
  pub each : (k : ℕ) → k < length places → lane c k ≡ lane a (slice_index places k)
