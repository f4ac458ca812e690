-- Comparisons of numerators over one denominator.
use Rattle.std.specs.Prelude.{◌≡◌, ℕ, ◌<◌, ℤ, pos, ◌*ℤ◌, List, length, int_lt, Bool, not}
use Rattle.std.specs.Ordering.{int_eq}
use Rattle.fisca_num.specs.Number.{Number, number_cmp}
use Rattle.fisca_vectors.specs.Vectors.{lane, flag, is_met_by}
use Rattle.fisca_vectors.specs.Numerators.{at}
use Rattle.fisca_vectors.specs.declared.comparison.LaneComparison.{LaneComparison}
use Rattle.fisca_vectors.specs.declared.comparison.LaneComparison.TheVariants.{AtLeast, AtMost, Equal, NotEqual, Above, Below}

abbrev pub test_of : LaneComparison → ℤ → ℤ → Bool
test_of AtLeast x y = not (int_lt x y)
test_of AtMost x y = not (int_lt y x)
test_of Equal x y = int_eq x y
test_of NotEqual x y = not (int_eq x y)
test_of Above x y = int_lt y x
test_of Below x y = int_lt x y

-- the same of numerators that factors bring over one denominator
abbrev pub brought_test : LaneComparison → ℕ → ℕ → ℤ → ℤ → Bool
brought_test comparison f g x y = test_of comparison (x *ℤ pos f) (y *ℤ pos g)

-- the flags tell `test` of the numerators of each lane
pub record IsTested (test : ℤ → ℤ → Bool) (left : List ℤ) (right : ℕ → ℤ) (flags : List Bool) : Type 0 where
  pub lanes : length flags ≡ length left
  pub each : (k : ℕ) → k < length left → flag flags k ≡ test (at left k) (right k)

-- at each lane, the flag says whether the number of a stands so to w of the lane
pub record IsComparedBeside (comparison : LaneComparison) (a : List Number) (w : ℕ → Number) (flags : List Bool) : Type 0 where
  pub lanes : length flags ≡ length a
  pub each : (k : ℕ) → k < length a → flag flags k ≡ is_met_by comparison (number_cmp (lane a k) (w k))
