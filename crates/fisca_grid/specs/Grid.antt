-- A grid: the axes of a group step together, and the first group turns fastest.
use Rattle.std.specs.Prelude.{ℕ, ◌+◌, ◌^◌, Bool, ◌==◌, ◌||◌, not, nat_lt, if◌then◌else◌, List, [], ◌∷◌, ◌++◌, map, take, drop, length, Option, Some, None}
use Rattle.std.specs.List.{list_any, flat_map, range_with_len}
use Rattle.std.specs.Option.{option_or}
use Rattle.fisca_writer.specs.Odometer.{places_at, product_of}
use Rattle.fisca_grid.specs.Axes.{first_axis_fault}
use Rattle.fisca_grid.specs.declared.axes.AxisSpec.{AxisSpec}
use Rattle.fisca_grid.specs.declared.axes.AxesFault.{AxesFault}
use Rattle.fisca_grid.specs.declared.axes.AxesFault.TheVariants.{NoAxes, CountsDiffer, TooLarge}

-- all tuples of places, one below each count, of which the first turns fastest
abbrev pub grid : List ℕ → List (List ℕ)
grid [] = [] ∷ []
grid (count ∷ counts) = flat_map (λ places. map (λ place. place ∷ places) (range_with_len 0 count)) (grid counts)

-- a list in groups of these lengths
abbrev pub groups_of : {X : Type 0} → List X → List ℕ → List (List X)
groups_of xs [] = []
groups_of xs (size ∷ sizes) = take size xs ∷ groups_of (drop size xs) sizes

-- the number of values of a group's axes: that of its first
abbrev pub count_of : List AxisSpec → ℕ
count_of [] = 0
count_of (axis ∷ axes) = axis.count

abbrev pub counts_of : List (List AxisSpec) → List ℕ
counts_of groups = map count_of groups

-- the number of positions of a grid
abbrev pub size_of : List (List AxisSpec) → ℕ
size_of groups = product_of (counts_of groups)

-- the axes of groups, each with its group's place
abbrev pub with_places : List (List AxisSpec) → List ℕ → List (AxisSpec × ℕ)
with_places [] places = []
with_places (group ∷ groups) [] = []
with_places (group ∷ groups) (place ∷ places) = map (λ axis. (axis, place)) group ++ with_places groups places

-- the number of axes of a grid
abbrev pub axes_in : List (List AxisSpec) → ℕ
axes_in [] = 0
axes_in (group ∷ groups) = length group + axes_in groups

-- the number of axes of the first group
abbrev pub leading_in : List (List AxisSpec) → ℕ
leading_in [] = 0
leading_in (group ∷ groups) = length group

-- the axes of a grid, each with its place at a position
abbrev pub axes_at : List (List AxisSpec) → ℕ → List (AxisSpec × ℕ)
axes_at groups position = with_places groups (places_at (counts_of groups) position)

-- the axes of a group have not the same number of values
abbrev pub has_two_counts : List AxisSpec → Bool
has_two_counts group = list_any (λ axis. not (axis.count == count_of group)) group

-- what is wrong with a grid of so many axes, each of which is right
abbrev pub grid_fault : ℕ → List (List AxisSpec) → Option AxesFault
grid_fault axes groups =
    if list_any has_two_counts groups then Some CountsDiffer
    else (if nat_lt 16 axes || nat_lt (2 ^ 32) (size_of groups) then Some TooLarge else None)

-- what is wrong with axes in groups of these lengths
abbrev pub axes_fault : List AxisSpec → List ℕ → Option AxesFault
axes_fault axes lengths =
    if (length lengths == 0) || list_any (λ size. size == 0) lengths then Some NoAxes
    else option_or (first_axis_fault axes) (grid_fault (length axes) (groups_of axes lengths))
