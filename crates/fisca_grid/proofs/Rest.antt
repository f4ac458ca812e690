-- The end of a line, which stays as it is while the first group alone turns.
use Rattle.std.proofs.Common.{◌≡◌, ℕ, zero, suc, ◌+◌, ◌-◌, ◌/◌, ◌%◌, ◌≤◌, List, [], ◌∷◌, ◌++◌, length, map, take, drop, take_all, Option, Some, None, option_and_then, option_map, slice_get, refl, sym, ap, ap₂, ◌∙◌, arith, append_assoc}
use Rattle.std.proofs.Math.Seq.{drop-append_seam}
use Rattle.std.proofs.lemmas.List.{length-drop, length-map, length-take-le, take-append-drop}
use Rattle.std.specs.List.{sum}
use Rattle.std.specs.Prelude.{if◌then◌else◌, is_ok, OnOk, Result, Ok, Err}
use Rattle.fisca_writer.specs.Odometer.{AreSameFrom, IsNear, places_at}
use Rattle.fisca_num.specs.Number.{Number}
use Rattle.fisca_num.specs.Text.{text_of}
use Rattle.fisca_grid.specs.Axes.{step_of}
use Rattle.fisca_grid.specs.AxesRow.{cells, line_feed, tab, values_of, before_values, rest_of}
use Rattle.fisca_grid.specs.Grid.{axes_at, axes_in, count_of, counts_of, groups_of, leading_in, with_places}
use Rattle.fisca_grid.specs.declared.axes.AxisSpec.{AxisSpec}
use Rattle.fisca_grid.proofs.Groups.{length-axes_at, sum_first}
use Rattle.fisca_grid.proofs.Values.{before_some}

-- the first length is the number of axes of the first group
pub leading_is : (axes : List AxisSpec) (lengths : List ℕ) (n : ℕ) → sum lengths ≡ length axes → slice_get lengths 0 ≡ Some n → (n ≡ leading_in (groups_of axes lengths)) × (n ≤ axes_in (groups_of axes lengths))
leading_is axes [] n e first = absurd (cc)
leading_is axes (m ∷ lengths) n e first =
    let same : m ≡ n = cc in
    let whole : length (take m axes) ≡ m = length-take-le m axes (omega (arith, e, sum_first m lengths)) in
    (omega (arith, same, whole), omega (arith, same, whole))

-- the places behind the first group, where it alone turned
others_same : (count : ℕ) (counts : List ℕ) (turned a b : ℕ) → turned ≤ 1 → AreSameFrom (count ∷ counts) turned a b → places_at counts (a / count) ≡ places_at counts (b / count)
others_same count counts zero a b few same = ap (λ xs. drop 1 xs) same
others_same count counts (suc zero) a b few same = same
others_same count counts (suc (suc turned)) a b few same = absurd (omega (arith, few))

behind_first : (group : List AxisSpec) (place : ℕ) (rest : List (AxisSpec × ℕ)) → drop (length group) (map (λ axis. (axis, place)) group ++ rest) ≡ rest
behind_first group place rest =
    ap (λ n. drop n (map (λ axis. (axis, place)) group ++ rest)) (sym (length-map group (λ axis. (axis, place)))) ∙ drop-append_seam (map (λ axis. (axis, place)) group) rest

later_same : (groups : List (List AxisSpec)) (turned here position : ℕ) → turned ≤ 1 → AreSameFrom (counts_of groups) turned here position → drop (leading_in groups) (axes_at groups here) ≡ drop (leading_in groups) (axes_at groups position)
later_same [] turned here position few same = refl
later_same (group ∷ groups) turned here position few same =
    behind_first group (here % count_of group) (axes_at groups (here / count_of group))
    ∙ ap (with_places groups) (others_same (count_of group) (counts_of groups) turned here position few same)
    ∙ sym (behind_first group (position % count_of group) (axes_at groups (position / count_of group)))

-- the end of a line stays
pub rest_stays : (groups : List (List AxisSpec)) (here : Option ℕ) (turned position : ℕ) (text : List ℕ) → turned ≤ 1 → IsNear (counts_of groups) here position turned → option_and_then (rest_of groups) here ≡ Some text → rest_of groups position ≡ Some text
rest_stays groups None turned position text few near known = absurd (cc)
rest_stays groups (Some here) turned position text few near known = ap (λ axes. option_map cells (values_of axes)) (sym (later_same groups turned here position few near)) ∙ known

some_rest : (o : Option (List Number)) (text : List ℕ) → option_map cells o ≡ Some text → (values : List Number) × (o ≡ Some values) × (text ≡ cells values)
some_rest None text is = absurd (cc)
some_rest (Some values) text is = (values, refl, cc)

-- the values behind the end of a line
pub rest_values : (groups : List (List AxisSpec)) (position : ℕ) (text : List ℕ) → rest_of groups position ≡ Some text
    → (values : List Number) × (values_of (drop (leading_in groups) (axes_at groups position)) ≡ Some values) × (text ≡ cells values)
rest_values groups position text is = some_rest _ text is

-- the values of some axes and of the others
pub values_join : (xs ys : List (AxisSpec × ℕ)) (us vs : List Number) → values_of xs ≡ Some us → values_of ys ≡ Some vs → values_of (xs ++ ys) ≡ Some (us ++ vs)
values_join [] ys us vs e f = let none : [] ≡ us = cc in f ∙ ap (λ us. Some (us ++ vs)) none
values_join (at ∷ xs) ys us vs e f =
    let b = before_some (step_of at.0 at.1) (values_of xs) us e in
    ap₂ before_values b.2 (values_join xs ys b.1 vs b.3 f) ∙ ap (λ us. Some (us ++ vs)) b.4

cells_join : (us vs : List Number) → cells (us ++ vs) ≡ cells us ++ cells vs
cells_join [] vs = refl
cells_join (u ∷ us) vs = ap (λ rest. (tab ∷ text_of u) ++ rest) (cells_join us vs) ∙ sym (append_assoc (tab ∷ text_of u) (cells us) (cells vs))

-- all axes are the leading ones and the others
pub whole_values : (groups : List (List AxisSpec)) (position leading : ℕ) (us vs : List Number) → leading ≡ leading_in groups → values_of (take (leading - 0) (drop 0 (axes_at groups position))) ≡ Some us → values_of (drop (leading_in groups) (axes_at groups position)) ≡ Some vs
    → values_of (axes_at groups position) ≡ Some (us ++ vs)
whole_values groups position leading us vs is e f =
    let axes = axes_at groups position in
    let all : leading - 0 ≡ leading_in groups = omega (arith, is) in
    let first : values_of (take (leading_in groups) axes) ≡ Some us = ap (λ n. values_of (take n axes)) (sym all) ∙ e in
    ap values_of (sym (take-append-drop (leading_in groups) axes)) ∙ values_join (take (leading_in groups) axes) (drop (leading_in groups) axes) us vs first f

pub whole_line : (old number text : List ℕ) (us vs : List Number) → text ≡ cells vs → (((old ++ number) ++ cells us) ++ text) ++ line_feed ∷ [] ≡ old ++ (number ++ (cells (us ++ vs) ++ line_feed ∷ []))
whole_line old number text us vs is =
    ap (λ text. (((old ++ number) ++ cells us) ++ text) ++ line_feed ∷ []) is
    ∙ ap (λ bytes. bytes ++ line_feed ∷ []) (append_assoc (old ++ number) (cells us) (cells vs) ∙ ap (λ cs. (old ++ number) ++ cs) (sym (cells_join us vs)))
    ∙ append_assoc (old ++ number) (cells (us ++ vs)) (line_feed ∷ [])
    ∙ append_assoc old number (cells (us ++ vs) ++ line_feed ∷ [])

-- the axes behind the first group, up to the last
pub later_values : (groups : List (List AxisSpec)) (position leading count : ℕ) (vs : List Number) → leading ≡ leading_in groups → count ≡ axes_in groups → values_of (take (count - leading) (drop leading (axes_at groups position))) ≡ Some vs
    → values_of (drop (leading_in groups) (axes_at groups position)) ≡ Some vs
later_values groups position leading count vs is all e =
    let axes = axes_at groups position in
    let over : length (drop leading axes) ≤ count - leading = omega (arith, length-drop leading axes, length-axes_at groups position, all) in
    ap (λ n. values_of (drop n axes)) (sym is) ∙ ap values_of (sym (take_all (count - leading) (drop leading axes) over)) ∙ e

pub slice_get-drop : {X : Type 0} (n : ℕ) (xs : List X) (i : ℕ) → slice_get (drop n xs) i ≡ slice_get xs (n + i)
slice_get-drop zero xs i = let none : i ≡ 0 + i = omega arith in ap (slice_get xs) none
slice_get-drop (suc n) [] i = refl
slice_get-drop (suc n) (x ∷ xs) i = let more : suc (n + i) ≡ suc n + i = omega arith in slice_get-drop n xs i ∙ ap (slice_get (x ∷ xs)) more

-- what holds where a text was appended
pub where_pushed : {E P : Type 0} (result : Result (Unit {0}) E) (old new more : List ℕ) → new ≡ (if is_ok result then more else old) → (new ≡ more → P) → OnOk result P
where_pushed (Ok x) old new more is give = give is
where_pushed (Err e) old new more is give = tt
