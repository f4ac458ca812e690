-- An axis of a grid.
use Rattle.std.specs.Prelude.{◌≡◌, ℕ, ℤ, ◌+◌, ◌-◌, ◌*◌, ◌^◌, ◌<◌, ◌≤◌, ◌*ℤ◌, max, pos, unsigned_abs, Bool, ◌&&◌, nat_le, if◌then◌else◌, List, Option, Some, None, Result, slice_get}
use Rattle.std.specs.List.{filter_map}
use Rattle.fisca_num.specs.declared.faults.NumFault.{NumFault}
use Rattle.fisca_num.specs.Rational.{Ratio, ratio_sum, ratio_difference, ratio_product}
use Rattle.fisca_num.specs.Number.{Number, ratio_of}
use Rattle.fisca_num.specs.Operations.{number_of}
use Rattle.fisca_grid.specs.declared.axes.AxisSpec.{AxisSpec}
use Rattle.fisca_grid.specs.declared.axes.AxesFault.{AxesFault}
use Rattle.fisca_grid.specs.declared.axes.AxesFault.TheVariants.{BadCount, BadBound}
use Rattle.fisca_grid.specs.Steps.Axes.{is_bound}

-- into how many steps an axis divides the way from `min` to `max`: one fewer than its values, and one where it has one value
abbrev pub steps_of : AxisSpec → ℕ
steps_of axis = max (axis.count - 1) 1

-- the way from `min` to `max`
abbrev pub way_of : AxisSpec → Ratio
way_of axis = ratio_difference (ratio_of axis.max) (ratio_of axis.min)

-- the value of an axis at a place: min + place * (max - min) / (count - 1), as a rational
abbrev pub step_ratio : AxisSpec → ℕ → Ratio
step_ratio axis place = ratio_sum (ratio_of axis.min) (ratio_product (record { numerator = pos place; denominator = steps_of axis }) (way_of axis))

-- the same as a number. It is always one, by the limits on axes
abbrev pub step_of : AxisSpec → ℕ → Result Number NumFault
step_of axis place = number_of (step_ratio axis place)

-- an axis has from 1 to 1,048,576 values
abbrev pub is_count : ℕ → Bool
is_count n = nat_le 1 n && nat_le n 1048576

-- what is wrong with an axis: its count is judged before its bounds
abbrev pub axis_fault : AxisSpec → Option AxesFault
axis_fault axis = if is_count axis.count then (if is_bound axis.min && is_bound axis.max then None else Some BadBound) else Some BadCount

-- the first fault of the axes in order
abbrev pub first_axis_fault : List AxisSpec → Option AxesFault
first_axis_fault axes = slice_get (filter_map axis_fault axes) 0

-- an axis as a line of rationals: the value at a place is (first + place * increment) / denominator, whose parts stay within 63 bits
pub record IsLine (axis : AxisSpec) (first increment : ℤ) (denominator : ℕ) : Type 0 where
  pub few : axis.count ≤ 1048576
  pub positive : 0 < denominator
  pub small : denominator < 2 ^ 63
  pub starts : first *ℤ pos axis.min.denominator ≡ axis.min.numerator *ℤ pos denominator
  pub rises : increment *ℤ pos (steps_of axis * (way_of axis).denominator) ≡ (way_of axis).numerator *ℤ pos denominator
  pub within : unsigned_abs first + axis.count * unsigned_abs increment < 2 ^ 63
