-- Axes in groups: faults, sizes and places, group by group.
use Rattle.std.proofs.Common.{◌≡◌, ℕ, zero, suc, ◌+◌, ◌-◌, ◌*◌, ◌/◌, ◌%◌, ◌<◌, ◌≤◌, min, nat_lt, cond, Bool, true, false, not, ◌==◌, ◌||◌, List, [], ◌∷◌, ◌++◌, length, map, take, drop, sum, Option, Some, None, slice_get, refl, sym, ap, ap₂, ◌∙◌, arith, ⊎_elim, append_assoc, length-append}
use Rattle.std.proofs.Math.Nat.{div-div-eq-div-mul, mul_assoc, mul-zero, mul-pos, mul-le-mul_right, le-mul_of_pos_right}
use Rattle.std.proofs.lemmas.Bool.{cases_lt, eqb-true, not-false, or_parts}
use Rattle.std.proofs.lemmas.Bool.Decides.{nat_tests}
use Rattle.std.proofs.lemmas.List.{length-map, length-drop, take-map, drop-map, take-append-drop}
use Rattle.std.proofs.lemmas.List.Sums.{sum_by-cons}
use Rattle.std.specs.List.{list_any, cons_option, filter_map}
use Rattle.std.specs.Option.{option_or}
use Rattle.fisca_grid.specs.declared.axes.Axis.{Axis}
use Rattle.fisca_grid.specs.declared.axes.AxisSpec.{AxisSpec}
use Rattle.fisca_grid.specs.declared.axes.AxesFault.{AxesFault}
use Rattle.fisca_grid.specs.declared.axes.AxesFault.TheVariants.{BadCount, CountsDiffer, TooLarge}
use Rattle.fisca_grid.specs.Axes.{axis_fault, first_axis_fault, is_count}
use Rattle.fisca_grid.specs.Grid.{count_of, counts_of, groups_of, size_of, has_two_counts, axes_at, axes_in, grid_fault}
use Rattle.fisca_grid.specs.Turning.{specs_of}
use Rattle.fisca_grid.specs.Steps.Turning.{turned}

fault_head : (o : Option AxesFault) (rest : List AxesFault) → slice_get (cons_option o rest) 0 ≡ option_or o (slice_get rest 0)
fault_head None rest = refl
fault_head (Some fault) rest = refl

-- the first fault of axes, by that of the first of them
pub fault_first : (axis : AxisSpec) (axes : List AxisSpec) → first_axis_fault (axis ∷ axes) ≡ option_or (axis_fault axis) (first_axis_fault axes)
fault_first axis axes = fault_head (axis_fault axis) (filter_map axis_fault axes)

pub sum_first : (n : ℕ) (ns : List ℕ) → sum (n ∷ ns) ≡ n + sum ns
sum_first n ns = sum_by-cons (λ x. x) n ns

capped_above : (x b c m : ℕ) → m ≤ x * b → min (m * c) m ≡ min (x * (b * c)) m
capped_above x b zero m high =
    let none : m * 0 ≡ x * (b * 0) = mul-zero m ∙ sym (ap (λ n. x * n) (mul-zero b) ∙ mul-zero x) in
    ap (λ n. min n m) none
capped_above x b (suc c) m high =
    let whole : x * (b * suc c) ≡ x * b * suc c = sym (mul_assoc x b (suc c)) in
    let more : m * suc c ≤ x * b * suc c = mul-le-mul_right (suc c) high in
    let some : m ≤ m * suc c = le-mul_of_pos_right m (omega arith) in
    omega arith

-- a product that stops at a limit
pub capped : (a b c m : ℕ) → min (min (a * b) m * c) m ≡ min (a * (b * c)) m
capped a b c m = ⊎_elim
    (λ (low : a * b < m). let e : min (a * b) m ≡ a * b = omega arith in rw (e, mul_assoc a b c) refl)
    (λ (high : m ≤ a * b). let e : min (a * b) m ≡ m = omega arith in rw e (capped_above a b c m high))
    (cases_lt (a * b) m)

none_of : (o p : Option AxesFault) → option_or o p ≡ None → (o ≡ None) × (p ≡ None)
none_of None p e = (refl, e)
none_of (Some fault) p e = absurd (cc)

accepted_first : (axis : AxisSpec) (axes : List AxisSpec) → first_axis_fault (axis ∷ axes) ≡ None → (axis_fault axis ≡ None) × (first_axis_fault axes ≡ None)
accepted_first axis axes e = none_of (axis_fault axis) (first_axis_fault axes) (sym (fault_first axis axes) ∙ e)

accepted_drop : (n : ℕ) (axes : List AxisSpec) → first_axis_fault axes ≡ None → first_axis_fault (drop n axes) ≡ None
accepted_drop zero axes e = e
accepted_drop (suc n) [] e = refl
accepted_drop (suc n) (axis ∷ axes) e = accepted_drop n axes (accepted_first axis axes e).1

is_first : (test : Bool) (o : Option AxesFault) → cond test o (Some BadCount) ≡ None → test ≡ true
is_first true o e = refl
is_first false o e = absurd (cc)

some_count : (axis : AxisSpec) → axis_fault axis ≡ None → 0 < axis.count
some_count axis e =
    let t : is_count axis.count ≡ true = is_first (is_count axis.count) _ e in
    grind (arith, nat_tests, t)

-- a grid of axes without a fault has a position
pub some_positions : (axes : List AxisSpec) (lengths : List ℕ) → first_axis_fault axes ≡ None → list_any (λ size. size == 0) lengths ≡ false → sum lengths ≡ length axes → 0 < size_of (groups_of axes lengths)
some_positions axes [] right full all = omega arith
some_positions axes (zero ∷ lengths) right full all = absurd (cc)
some_positions [] (suc n ∷ lengths) right full all = absurd (omega (arith, sum_first (suc n) lengths))
some_positions (axis ∷ axes) (suc n ∷ lengths) right full all =
    let rest : length (drop n axes) ≡ length axes - n = length-drop n axes in
    let later : 0 < size_of (groups_of (drop n axes) lengths) = some_positions (drop n axes) lengths (accepted_drop n axes (accepted_first axis axes right).1) (or_parts (suc n == 0) _ full).1 (omega (arith, sum_first (suc n) lengths)) in
    mul-pos (some_count axis (accepted_first axis axes right).0) later

pub alike_first : (group : List AxisSpec) (groups : List (List AxisSpec)) → list_any has_two_counts (group ∷ groups) ≡ false → (has_two_counts group ≡ false) × (list_any has_two_counts groups ≡ false)
alike_first group groups e = or_parts _ _ e

same_place : (n c q : ℕ) → not (n == c) ≡ false → q % n ≡ q % c
same_place n c q e = let same : n ≡ c = eqb-true n c (not-false (n == c) e) in ap (λ n. q % n) same

same_places : (c q : ℕ) (axes : List Axis) → list_any (λ (axis : AxisSpec). not (axis.count == c)) (specs_of axes) ≡ false → map (turned q) axes ≡ map (λ axis. (axis, q % c)) (specs_of axes)
same_places c q [] e = refl
same_places c q (axis ∷ axes) e =
    let both = or_parts (not (axis.spec.count == c)) _ e in
    ap₂ (λ (place : ℕ) (rest : List (AxisSpec × ℕ)). (axis.spec, place) ∷ rest) (same_place axis.spec.count c q both.0) (same_places c q axes both.1)

second_of : (a b w : Bool) → a ≡ false → (a || b) ≡ w → b ≡ w
second_of true b w e h = absurd (cc)
second_of false b w e h = h

-- what is left behind a first group
pub left_grouped : {X : Type 0} (rest : List X) (n : ℕ) (lengths : List ℕ) → sum (n ∷ lengths) ≡ length rest → sum lengths ≡ length (drop n rest)
left_grouped rest n lengths e = omega (arith, sum_first n lengths, length-drop n rest)

pub left_alike : (rest : List AxisSpec) (n : ℕ) (lengths : List ℕ) (whole : Bool) → has_two_counts (take n rest) ≡ false → list_any has_two_counts (groups_of rest (n ∷ lengths)) ≡ whole → list_any has_two_counts (groups_of (drop n rest) lengths) ≡ whole
left_alike rest n lengths whole alike e = second_of (has_two_counts (take n rest)) _ whole alike e

pub left_size : (rest : List AxisSpec) (n : ℕ) (lengths : List ℕ) (size whole limit : ℕ) → min (size * size_of (groups_of rest (n ∷ lengths))) limit ≡ whole → min (min (size * count_of (take n rest)) limit * size_of (groups_of (drop n rest) lengths)) limit ≡ whole
left_size rest n lengths size whole limit e = capped size (count_of (take n rest)) (size_of (groups_of (drop n rest) lengths)) limit ∙ e

-- the axes of a group turn together
pub group_places : (axes : List Axis) (q : ℕ) → has_two_counts (specs_of axes) ≡ false → map (turned q) axes ≡ map (λ axis. (axis, q % count_of (specs_of axes))) (specs_of axes)
group_places axes q e = same_places (count_of (specs_of axes)) q axes e

front_of : (n : ℕ) (rest : List Axis) → specs_of (take n rest) ≡ take n (specs_of rest)
front_of n rest = sym (take-map (λ (axis : Axis). axis.spec) n rest)

back_of : (n : ℕ) (rest : List Axis) → specs_of (drop n rest) ≡ drop n (specs_of rest)
back_of n rest = sym (drop-map (λ (axis : Axis). axis.spec) n rest)

pub group_alike : (rest : List Axis) (n : ℕ) (lengths : List ℕ) → list_any has_two_counts (groups_of (specs_of rest) (n ∷ lengths)) ≡ false → (has_two_counts (specs_of (take n rest)) ≡ false) × (list_any has_two_counts (groups_of (specs_of (drop n rest)) lengths) ≡ false)
group_alike rest n lengths e =
    let both = or_parts (has_two_counts (take n (specs_of rest))) _ e in
    (ap has_two_counts (front_of n rest) ∙ both.0, ap (λ axes. list_any has_two_counts (groups_of axes lengths)) (back_of n rest) ∙ both.1)

pub group_pace : (rest : List Axis) (n : ℕ) (lengths : List ℕ) (pace whole : ℕ) → pace * size_of (groups_of (specs_of rest) (n ∷ lengths)) ≡ whole → pace * count_of (specs_of (take n rest)) * size_of (groups_of (specs_of (drop n rest)) lengths) ≡ whole
group_pace rest n lengths pace whole e =
    ap₂ (λ (front : List AxisSpec) (back : List AxisSpec). pace * count_of front * size_of (groups_of back lengths)) (front_of n rest) (back_of n rest)
    ∙ mul_assoc pace (count_of (take n (specs_of rest))) (size_of (groups_of (drop n (specs_of rest)) lengths)) ∙ e

below_whole : (a s whole : ℕ) → a * s ≡ whole → 0 < whole → a ≤ whole
below_whole a zero whole e some = absurd (omega (arith, mul-zero a, e, some))
below_whole a (suc s) whole e some = omega (arith, e, le-mul_of_pos_right {m = suc s} a (omega arith))

-- a pace is at most the size
pub pace_within : (rest : List Axis) (n : ℕ) (lengths : List ℕ) (pace whole : ℕ) → pace * size_of (groups_of (specs_of rest) (n ∷ lengths)) ≡ whole → 0 < whole → pace * count_of (specs_of (take n rest)) ≤ whole
pace_within rest n lengths pace whole e some = below_whole (pace * count_of (specs_of (take n rest))) (size_of (groups_of (specs_of (drop n rest)) lengths)) whole (group_pace rest n lengths pace whole e) some

pub group_axes : (old new whole : List AxisSpec) (rest : List Axis) (n : ℕ) → old ++ specs_of rest ≡ whole → new ≡ old ++ specs_of (take n rest) → new ++ specs_of (drop n rest) ≡ whole
group_axes old new whole rest n e more =
    ap₂ (λ (a b : List AxisSpec). a ++ b) (more ∙ ap (λ (g : List AxisSpec). old ++ g) (front_of n rest)) (back_of n rest)
    ∙ append_assoc old (take n (specs_of rest)) (drop n (specs_of rest))
    ∙ ap (λ (xs : List AxisSpec). old ++ xs) (take-append-drop n (specs_of rest)) ∙ e

-- the numbers of places of the groups so far, of a first group and of the others
pub group_counts : (old whole : List ℕ) (rest : List Axis) (n : ℕ) (lengths : List ℕ) → old ++ counts_of (groups_of (specs_of rest) (n ∷ lengths)) ≡ whole
    → (old ++ count_of (specs_of (take n rest)) ∷ []) ++ counts_of (groups_of (specs_of (drop n rest)) lengths) ≡ whole
group_counts old whole rest n lengths e =
    append_assoc old (count_of (specs_of (take n rest)) ∷ []) (counts_of (groups_of (specs_of (drop n rest)) lengths))
    ∙ ap₂ (λ (front back : List AxisSpec). old ++ count_of front ∷ counts_of (groups_of back lengths)) (front_of n rest) (back_of n rest)
    ∙ e

limited : (differ many large : Bool) → cond differ (Some CountsDiffer) (cond (many || large) (Some TooLarge) None) ≡ None → many ≡ false
limited true many large e = absurd (cc)
limited false true large e = absurd (cc)
limited false false large e = refl

-- a grid without a fault has at most 16 axes
pub few_axes : (axes : ℕ) (groups : List (List AxisSpec)) → grid_fault axes groups ≡ None → axes ≤ 16
few_axes axes groups e = let few : nat_lt 16 axes ≡ false = limited _ _ _ e in grind (arith, nat_tests, few)

-- no more groups than axes, where no group is empty
pub few_groups : (lengths : List ℕ) → list_any (λ size. size == 0) lengths ≡ false → length lengths ≤ sum lengths
few_groups [] full = omega arith
few_groups (zero ∷ lengths) full = absurd (cc)
few_groups (suc n ∷ lengths) full = omega (arith, sum_first (suc n) lengths, few_groups lengths (or_parts (suc n == 0) _ full).1)

-- what is placed of a first group and of the others
pub turn_group : (old new : List (AxisSpec × ℕ)) (axes rest : List Axis) (lengths : List ℕ) (n position pace : ℕ) (whole : List (AxisSpec × ℕ))
    → axes ≡ take n rest → has_two_counts (specs_of axes) ≡ false
    → old ++ axes_at (groups_of (specs_of rest) (n ∷ lengths)) (position / pace) ≡ whole
    → new ≡ old ++ map (turned (position / pace)) axes
    → new ++ axes_at (groups_of (specs_of (drop n rest)) lengths) (position / (pace * count_of (specs_of axes))) ≡ whole
turn_group old new axes rest lengths n position pace whole cut alike before more =
    let front : specs_of axes ≡ take n (specs_of rest) = ap specs_of cut ∙ sym (take-map (λ (axis : Axis). axis.spec) n rest) in
    let back : specs_of (drop n rest) ≡ drop n (specs_of rest) = sym (drop-map (λ (axis : Axis). axis.spec) n rest) in
    let group = take n (specs_of rest) in
    let later = axes_at (groups_of (drop n (specs_of rest)) lengths) (position / (pace * count_of group)) in
    let turned_group : map (turned (position / pace)) axes ≡ map (λ axis. (axis, (position / pace) % count_of group)) group = group_places axes (position / pace) alike ∙ ap (λ (g : List AxisSpec). map (λ axis. (axis, (position / pace) % count_of g)) g) front in
    ap₂ (λ (b : List (AxisSpec × ℕ)) (g : List AxisSpec). b ++ axes_at (groups_of (specs_of (drop n rest)) lengths) (position / (pace * count_of g))) (more ∙ ap (λ (m : List (AxisSpec × ℕ)). old ++ m) turned_group) front
    ∙ ap (λ (r : List AxisSpec). (old ++ map (λ axis. (axis, (position / pace) % count_of group)) group) ++ axes_at (groups_of r lengths) (position / (pace * count_of group))) back
    ∙ append_assoc old (map (λ axis. (axis, (position / pace) % count_of group)) group) later
    ∙ ap (λ (q : ℕ). old ++ (map (λ axis. (axis, (position / pace) % count_of group)) group ++ axes_at (groups_of (drop n (specs_of rest)) lengths) q)) (sym (div-div-eq-div-mul position pace (count_of group)))
    ∙ before

-- as many axes stand at a position as there are
pub length-axes_at : (groups : List (List AxisSpec)) (position : ℕ) → length (axes_at groups position) ≡ axes_in groups
length-axes_at [] position = refl
length-axes_at (group ∷ groups) position =
    let later : length (axes_at groups (position / count_of group)) ≡ axes_in groups = length-axes_at groups (position / count_of group) in
    length-append (map (λ axis. (axis, position % count_of group)) group) (axes_at groups (position / count_of group))
    ∙ ap₂ (λ (a b : ℕ). a + b) (length-map group (λ axis. (axis, position % count_of group))) later
