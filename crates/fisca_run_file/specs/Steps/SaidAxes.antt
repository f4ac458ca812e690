-- The steps of code behind `SaidAxes`:
-- The axes of a run file, as they are said: a list of groups, each a list of axes, each a map of `name`, `count`, `min`, `max`, and perhaps `period`
-- and `index`.
use Rattle.std.specs.Prelude.{ℕ, suc, ℤ, pos, negsuc, List, [], ◌∷◌, ◌++◌, Bool, ◌==◌, ◌&&◌, ◌||◌, is_some, if◌then◌else◌, Option, Some, None, option_and_then, Result, Ok, codes}
use Rattle.std.specs.Option.{unwrap_or}
use Rattle.std.specs.Str.{bytes_eq}
use Rattle.fisca_columns.specs.Steps.Calc.{period_in}
use Rattle.fisca_columns.specs.Faults.{fault_at}
use Rattle.fisca_columns.specs.declared.fault.RunFileFault.{RunFileFault}
use Rattle.fisca_columns.specs.declared.fault.RunFileKind.TheVariants.{BadKey}
use Rattle.fisca_grid.specs.declared.axes.AxisSpec.{AxisSpec}
use Rattle.fisca_model.specs.declared.key.Key.{Key}
use Rattle.fisca_num.specs.Number.{Number}
use Rattle.fisca_num.specs.Results.{and_then}
use Rattle.fisca_time.specs.Period.{Span}
use Rattle.fisca_yaml.specs.Steps.Find.{as_number, as_text, get}
use Rattle.fisca_yaml.specs.Node.{Node, null, scalar, list, map, Items, no_items, item, Entries, no_entries, entry}
use Rattle.fisca_run_file.specs.SaidAxes.{SaidAxis, SaidAxes, no_axes}

-- One axis

-- whole numbers from 0, as `3` and `3.0` write them
abbrev pub whole_of : Number → Option ℕ
whole_of v = if v.denominator == 1 then from_zero v.numerator else None where
  from_zero : ℤ → Option ℕ
  from_zero (pos k) = Some k
  from_zero (negsuc k) = None

abbrev pub whole_in : Node → Option ℕ
whole_in n = option_and_then whole_of (as_number n)

-- what each key of an axis may have; there is no other key
abbrev pub is_axis_key : List ℕ → Node → Bool
is_axis_key key n =
    if bytes_eq key (codes "name") then is_some (as_text n)
    else (if bytes_eq key (codes "count") || bytes_eq key (codes "index") then is_some (whole_in n)
    else (if bytes_eq key (codes "min") || bytes_eq key (codes "max") then is_some (as_number n)
    else (bytes_eq key (codes "period") && is_some (period_in n))))

-- the first key that is not accepted is told of its line
abbrev pub axis_keys_checked : Entries → Result (List Key) RunFileFault
axis_keys_checked no_entries = Ok []
axis_keys_checked (entry key line n es) = if is_axis_key key n then axis_keys_checked es else fault_at line BadKey

-- what is missing is told of the first line
abbrev pub needed : {X : Type 0} → Option X → Result X RunFileFault
needed None = fault_at 1 BadKey
needed (Some x) = Ok x

abbrev pub name_in : Node → Option (List ℕ)
name_in n = option_and_then as_text (get (codes "name") n)

abbrev pub whole_at : List ℕ → Node → Option ℕ
whole_at key n = option_and_then whole_in (get key n)

abbrev pub number_at : List ℕ → Node → Option Number
number_at key n = option_and_then as_number (get key n)

abbrev pub period_at : Node → Option Span
period_at n = option_and_then period_in (get (codes "period") n)

-- so many values from one number to another
unfoldable pub spec_said : Node → Result AxisSpec RunFileFault
spec_said n =
    and_then (needed (whole_at (codes "count") n)) (λ count.
    and_then (needed (number_at (codes "min") n)) (λ min.
    and_then (needed (number_at (codes "max") n)) (λ max.
    Ok (record { count = count; min = min; max = max }))))

-- the first member where there is no index
unfoldable pub axis_of : ℕ → Node → Result SaidAxis RunFileFault
axis_of line n =
    and_then (needed (name_in n)) (λ name.
    and_then (spec_said n) (λ spec.
    Ok (record { line = line; name = name; spec = spec; period = period_at n; index = unwrap_or (whole_at (codes "index") n) 0 })))

unfoldable pub axis_said : ℕ → Entries → Result SaidAxis RunFileFault
axis_said line es = and_then (axis_keys_checked es) (λ _. axis_of line (map es))

-- Groups

-- What is no map has no key of its own, and is told of the line of `axes`.
abbrev pub axis_in : ℕ → ℕ → Node → Result SaidAxis RunFileFault
axis_in key line null = fault_at key BadKey
axis_in key line (scalar t q l) = fault_at key BadKey
axis_in key line (list is) = fault_at key BadKey
axis_in key line (map es) = axis_said line es

-- the axes so far and one more
abbrev pub with_axis : ℕ → List SaidAxis → ℕ → Node → Result (List SaidAxis) RunFileFault
with_axis key xs line n = and_then (axis_in key line n) (λ x. Ok (xs ++ x ∷ []))

abbrev pub with_axes : ℕ → List SaidAxis → Items → Result (List SaidAxis) RunFileFault
with_axes key xs no_items = Ok xs
with_axes key xs (item line n is) = and_then (with_axis key xs line n) (λ ys. with_axes key ys is)

abbrev pub count_items : Items → ℕ
count_items no_items = 0
count_items (item line n is) = suc (count_items is)

unfoldable pub with_list : ℕ → SaidAxes → Items → Result SaidAxes RunFileFault
with_list key a is = and_then (with_axes key a.axes is) (λ xs. Ok (record { axes = xs; lengths = a.lengths ++ count_items is ∷ [] }))

-- so is a group that is no list
abbrev pub with_group : ℕ → SaidAxes → Node → Result SaidAxes RunFileFault
with_group key a null = fault_at key BadKey
with_group key a (scalar t q line) = fault_at key BadKey
with_group key a (list is) = with_list key a is
with_group key a (map es) = fault_at key BadKey

abbrev pub with_groups : ℕ → SaidAxes → Items → Result SaidAxes RunFileFault
with_groups key a no_items = Ok a
with_groups key a (item line n is) = and_then (with_group key a n) (λ b. with_groups key b is)

-- what stands at `axes`, whose key stands on this line
abbrev pub axes_said : ℕ → Node → Result SaidAxes RunFileFault
axes_said key null = fault_at key BadKey
axes_said key (scalar t q line) = fault_at key BadKey
axes_said key (list is) = with_groups key no_axes is
axes_said key (map es) = fault_at key BadKey
