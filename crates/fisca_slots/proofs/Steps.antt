-- The values of axes, and their parts.
use Rattle.std.proofs.Common.{◌≡◌, ℕ, zero, suc, ◌*◌, ◌/◌, ◌%◌, ◌<◌, ◌≤◌, ◌^◌, ℤ, pos, ◌+ℤ◌, ◌-ℤ◌, ◌*ℤ◌, unsigned_abs, List, [], ◌∷◌, ◌++◌, map, length, take, drop, Bool, true, false, not, Option, Some, None, Ok, refl, sym, ap, ap₂, subst, ◌∙◌, arith, length-drop, length-take, mul-pos, if◌then◌else◌, ◌||◌, ◌&&◌}
use Rattle.std.specs.Prelude.{◌==◌, nat_le, sum}
use Rattle.std.specs.List.{list_any}
use Rattle.std.specs.Option.{option_or}
use Rattle.std.proofs.lemmas.Bool.{and_parts, eqb-true, leb-true, or_parts}
use Rattle.std.proofs.lemmas.Int.{ints, unsigned_abs-mul}
use Rattle.std.proofs.lemmas.Nat.{mul-le}
use Rattle.fisca_grid.proofs.Groups.{alike_first, fault_first, left_grouped, length-axes_at, sum_first}
use Rattle.fisca_grid.proofs.Sizes.{abs-line}
use Rattle.fisca_grid.proofs.Steps.{below_within, bound_size, bound_value, number_fits, on_line, same_number_of, step_on_line}
use Rattle.fisca_grid.specs.Axes.{IsLine, axis_fault, first_axis_fault, is_count, step_of, steps_of}
use Rattle.fisca_grid.specs.Steps.Axes.{is_bound}
use Rattle.fisca_grid.specs.AxesRow.{before_values, values_of}
use Rattle.fisca_grid.specs.Grid.{axes_at, axes_fault, axes_in, count_of, grid_fault, groups_of, has_two_counts}
use Rattle.fisca_grid.specs.declared.axes.AxesFault.{AxesFault}
use Rattle.fisca_grid.specs.declared.axes.AxesFault.TheVariants.{BadBound, BadCount, CountsDiffer, NoAxes}
use Rattle.fisca_grid.specs.declared.axes.AxisSpec.{AxisSpec}
use Rattle.fisca_inputs.specs.Steps.Sharing.{part_ratio}
use Rattle.fisca_num.specs.Integers.{times_pos}
use Rattle.fisca_num.specs.Number.{Number, ratio_of, whole_number}
use Rattle.fisca_num.specs.Operations.{is_number_of, number_of}
use Rattle.fisca_num.specs.Rational.{Reduces}
use Rattle.fisca_num.specs.Value.{IsNumberOf}

-- more than the subperiods of any period
abbrev pub most_parts : ℕ
most_parts = 7_304_850

-- each of so many equal parts of a number is one
abbrev pub CanPart : Number → Type 0
CanPart v = (count : ℕ) → 0 < count → count ≤ most_parts → (share : Number) × (number_of (part_ratio v count) ≡ Ok share)

pub record IsStep (axis : AxisSpec) (place : ℕ) : Type 0 where
  pub value : Number
  pub is : step_of axis place ≡ Ok value
  pub parts : CanPart value

-- a part of what is n over d
part_of_line : (n : ℤ) (d : ℕ) (v : Number) → number_of (record { numerator = n; denominator = d }) ≡ Ok v → 0 < d → d ≤ 1048576000 → unsigned_abs n < 2 ^ 63
    → CanPart v
part_of_line n d v is some few small count positive most =
    let reduces : Reduces (record { numerator = n; denominator = d }) (ratio_of v) =
    subst (IsNumberOf (record { numerator = n; denominator = d })) is (is_number_of (record { numerator = n; denominator = d })) in
    let low = v.lowest.positive in
    let below : d * count < 2 ^ 63 = omega (arith, mul-le d count 1048576000 7304850 few most) in
    let over : 0 < d * count = mul-pos some positive in
    let fits = number_fits n (d * count) over small below in
    let same : v.numerator *ℤ pos (d * count) ≡ n *ℤ pos (v.denominator * count) =
    sym (times_pos v.numerator d count) ∙ (ap (λ z. z *ℤ pos count) reduces.same ∙ times_pos n v.denominator count) in
    (fits.0, same_number_of (part_ratio v count) (record { numerator = n; denominator = d * count }) same (mul-pos low positive) over ∙ fits.1)

step_is : (axis : AxisSpec) (place : ℕ) (first rise : ℤ) → IsLine axis first rise (1000 * steps_of axis) → place < axis.count → IsStep axis place
step_is axis place first rise line inside =
    let n : ℤ = first +ℤ pos place *ℤ rise in
    let within : unsigned_abs n < 2 ^ 63 =
    omega (arith, abs-line first rise place, below_within place axis.count (unsigned_abs first) (unsigned_abs rise) inside line.within) in
    let fits = number_fits n (1000 * steps_of axis) line.positive within line.small in
    record {
      value = fits.0;
      is = sym (step_on_line axis first rise (1000 * steps_of axis) line place) ∙ fits.1;
      parts = part_of_line n (1000 * steps_of axis) fits.0 fits.1 line.positive (omega (arith, line.few)) within;
    }

pub step_at : (axis : AxisSpec) (place : ℕ) → axis_fault axis ≡ None → place < axis.count → IsStep axis place
step_at axis place right inside = by (is_count axis.count) refl (is_bound axis.min && is_bound axis.max) refl right
  where
    way : (x y : ℤ) → unsigned_abs x ≤ 1000000000000 → unsigned_abs y ≤ 1000000000000 → unsigned_abs (y -ℤ x) ≤ 2000000000000
    way x y h k = omega (arith, ints)

    on : is_count axis.count ≡ true → (is_bound axis.min && is_bound axis.max) ≡ true → IsStep axis place
    on counted bounded =
        let bounds = and_parts (is_bound axis.min) (is_bound axis.max) bounded in
        let counts = and_parts (nat_le 1 axis.count) (nat_le axis.count 1048576) counted in
        let few : axis.count ≤ 1048576 = leb-true axis.count 1048576 counts.1 in
        let low : unsigned_abs (axis.min.numerator *ℤ pos (1000 / axis.min.denominator)) ≤ 1000000000000 =
        omega (arith, unsigned_abs-mul axis.min.numerator (pos (1000 / axis.min.denominator)), bound_size axis.min bounds.0) in
        let high : unsigned_abs (axis.max.numerator *ℤ pos (1000 / axis.max.denominator)) ≤ 1000000000000 =
        omega (arith, unsigned_abs-mul axis.max.numerator (pos (1000 / axis.max.denominator)), bound_size axis.max bounds.1) in
        step_is axis place (axis.min.numerator *ℤ pos (1000 / axis.min.denominator) *ℤ pos (steps_of axis))
        (axis.max.numerator *ℤ pos (1000 / axis.max.denominator) -ℤ axis.min.numerator *ℤ pos (1000 / axis.min.denominator))
        (on_line axis (axis.min.numerator *ℤ pos (1000 / axis.min.denominator)) (axis.max.numerator *ℤ pos (1000 / axis.max.denominator)) few
        (bound_value axis.min bounds.0) (bound_value axis.max bounds.1) low
        (way (axis.min.numerator *ℤ pos (1000 / axis.min.denominator)) (axis.max.numerator *ℤ pos (1000 / axis.max.denominator)) low high)) inside

    by : (x : Bool) → is_count axis.count ≡ x → (y : Bool) → (is_bound axis.min && is_bound axis.max) ≡ y
        → (if x then (if y then None else Some BadBound) else Some BadCount) ≡ None → IsStep axis place
    by true counted true bounded e = on counted bounded
    by true counted false bounded e = cc
    by false counted y bounded e = cc

some_count : (axis : AxisSpec) → axis_fault axis ≡ None → 0 < axis.count
some_count axis right = by (is_count axis.count) refl right
  where
    by : (x : Bool) → is_count axis.count ≡ x → (if x then (if is_bound axis.min && is_bound axis.max then None else Some BadBound) else Some BadCount) ≡ None
        → 0 < axis.count
    by true counted e = leb-true 1 axis.count (and_parts (nat_le 1 axis.count) (nat_le axis.count 1048576) counted).0
    by false counted e = cc

-- a whole number within the limits
pub whole_parts : (n : ℤ) (h : unsigned_abs n < 2 ^ 63) → CanPart (whole_number n h)
whole_parts n h count some most = number_fits n (1 * count) (omega (arith, some)) h (omega (arith, most))

-- Grids

abbrev pub AllPart : List Number → Type 0
AllPart [] = Unit {0}
AllPart (v ∷ vs) = CanPart v × AllPart vs

pub record AreValues (axes : List (AxisSpec × ℕ)) : Type 0 where
  pub values : List Number
  pub are : values_of axes ≡ Some values
  pub parts : AllPart values
  pub many : length values ≡ length axes

-- axes within the limits, that have so many values
abbrev AreRight : List AxisSpec → Type 0
AreRight [] = Unit {0}
AreRight (axis ∷ axes) = (axis_fault axis ≡ None) × AreRight axes

first_part : (o p : Option AxesFault) → option_or o p ≡ None → (o ≡ None) × (p ≡ None)
first_part None p h = (refl, h)
first_part (Some f) p h = cc

all_right : (axes : List AxisSpec) → first_axis_fault axes ≡ None → AreRight axes
all_right [] h = tt
all_right (axis ∷ axes) h =
    let parts = first_part (axis_fault axis) (first_axis_fault axes) (sym (fault_first axis axes) ∙ h) in
    (parts.0, all_right axes parts.1)

right_take : (n : ℕ) (axes : List AxisSpec) → AreRight axes → AreRight (take n axes)
right_take zero axes all = tt
right_take (suc n) [] all = tt
right_take (suc n) (axis ∷ axes) all = (all.0, right_take n axes all.1)

right_drop : (n : ℕ) (axes : List AxisSpec) → AreRight axes → AreRight (drop n axes)
right_drop zero axes all = all
right_drop (suc n) [] all = tt
right_drop (suc n) (axis ∷ axes) all = right_drop n axes all.1

not_false : (b : Bool) → not b ≡ false → b ≡ true
not_false true h = refl
not_false false h = cc

-- the axes of a group before others
group_values : (count position : ℕ) (group : List AxisSpec) (rest : List (AxisSpec × ℕ)) → 0 < count → AreRight group
    → list_any (λ axis. not (axis.count == count)) group ≡ false → AreValues rest
    → AreValues (map (λ axis. (axis, position % count)) group ++ rest)
group_values count position [] rest some right alike values = values
group_values count position (axis ∷ group) rest some right alike values =
    let parts = or_parts (not (axis.count == count)) (list_any (λ axis. not (axis.count == count)) group) alike in
    let same : axis.count ≡ count = eqb-true axis.count count (not_false (axis.count == count) parts.0) in
    let inside : position % count < axis.count = omega arith in
    let step = step_at axis (position % count) right.0 inside in
    let more = group_values count position group rest some right.1 parts.1 values in
    record {
      values = step.value ∷ more.values;
      are = ap₂ before_values step.is more.are;
      parts = (step.parts, more.parts);
      many = ap suc more.many;
    }

some_values : (group : List AxisSpec) (rest : List (AxisSpec × ℕ)) (position : ℕ) → AreRight group → has_two_counts group ≡ false → AreValues rest
    → AreValues (map (λ axis. (axis, position % count_of group)) group ++ rest)
some_values [] rest position right alike values = values
some_values (axis ∷ group) rest position right alike values = group_values axis.count position (axis ∷ group) rest (some_count axis right.0) right alike values

grid_values : (axes : List AxisSpec) (lengths : List ℕ) (position : ℕ) → AreRight axes → list_any has_two_counts (groups_of axes lengths) ≡ false
    → AreValues (axes_at (groups_of axes lengths) position)
grid_values axes [] position right alike = record { values = []; are = refl; parts = tt; many = refl }
grid_values axes (n ∷ lengths) position right alike =
    let parts = alike_first (take n axes) (groups_of (drop n axes) lengths) alike in
    some_values (take n axes) (axes_at (groups_of (drop n axes) lengths) (position / count_of (take n axes))) position (right_take n axes right) parts.0
    (grid_values (drop n axes) lengths (position / count_of (take n axes)) (right_drop n axes right) parts.1)

pub axes_grouped : (axes : List AxisSpec) (lengths : List ℕ) → sum lengths ≡ length axes → axes_in (groups_of axes lengths) ≡ length axes
axes_grouped axes [] all = all
axes_grouped axes (n ∷ lengths) all =
    let later = axes_grouped (drop n axes) lengths (left_grouped axes n lengths all) in
    omega (arith, later, length-take n axes, length-drop n axes, sum_first n lengths)

no_counts_differ : (b : Bool) (o : Option AxesFault) → (if b then Some CountsDiffer else o) ≡ None → b ≡ false
no_counts_differ true o h = cc
no_counts_differ false o h = refl

not_empty : (b : Bool) (o : Option AxesFault) → (if b then Some NoAxes else o) ≡ None → o ≡ None
not_empty true o h = cc
not_empty false o h = h

-- axes that make a grid have values at each position
pub values_at : (axes : List AxisSpec) (lengths : List ℕ) (position : ℕ) → axes_fault axes lengths ≡ None → sum lengths ≡ length axes
    → (values : List Number) × (values_of (axes_at (groups_of axes lengths) position) ≡ Some values) × AllPart values × (length values ≡ length axes)
values_at axes lengths position right all =
    let parts =
    first_part (first_axis_fault axes) (grid_fault (length axes) (groups_of axes lengths))
    (not_empty ((length lengths == 0) || list_any (λ size. size == 0) lengths) _ right) in
    let are = grid_values axes lengths position (all_right axes parts.0) (no_counts_differ (list_any has_two_counts (groups_of axes lengths)) _ parts.1) in
    (are.values, are.are, are.parts, are.many ∙ (length-axes_at (groups_of axes lengths) position ∙ axes_grouped axes lengths all))
