-- The definitions of overlaps, and of inputs with those of axes, worked out on small ones.
use Rattle.std.proofs.Common.{◌≡◌, ℕ, ◌*◌, ◌+◌, [], ◌∷◌, refl}
use Rattle.std.specs.Prelude.{true, false, Ok, Err}
use Rattle.fisca_columns.specs.declared.fault.RunFileKind.TheVariants as kind
use Rattle.fisca_grid.specs.declared.axes.AxesFault.TheVariants as axes
use Rattle.fisca_inputs.specs.declared.given.Given.{Given}
use Rattle.fisca_model.specs.declared.value.Value.TheVariants as v
use Rattle.fisca_num.specs.Number.{zero_number, one_number}
use Rattle.fisca_time.specs.Period.{Span, eternity, months}
use Rattle.fisca_time.specs.declared.unit.Unit.TheVariants as unit
use Rattle.fisca_run_file.specs.Moved.{apart_from}
use Rattle.fisca_situations.specs.AllAxes.{put_all_in}
use Rattle.fisca_inputs.specs.Overlaps.{shares_day}
use Rattle.fisca_inputs.specs.Steps.Overlaps.{overlaps}

abbrev january : Span
january = months unit.Month (12 * 2017) 1

abbrev february : Span
february = months unit.Month (12 * 2017 + 1) 1

abbrev year : Span
year = months unit.Year (12 * 2017) 1

-- an input of one variable and member
abbrev moving : ℕ → Span → Given
moving line p = record { variable = 0; member = 0; period = p; value = v.Number zero_number; line = line }

abbrev said : ℕ → Span → Given
said line p = record { variable = 0; member = 0; period = p; value = v.Number one_number; line = line }

all_of_time : shares_day eternity eternity ≡ true
all_of_time = refl

-- an eternal variable has one input, which an axis replaces, and which two axes do not move both
axis_for_ever : apart_from (said 1 eternity ∷ []) [] (moving 3 eternity ∷ []) ≡ Ok []
axis_for_ever = refl

axes_for_ever : apart_from [] [] (moving 3 eternity ∷ moving 4 eternity ∷ []) ≡ Err (record { line = 4; kind = kind.Axes axes.AxisOverlap })
axes_for_ever = refl

other_member : overlaps (said 1 january ∷ []) 0 1 year ≡ false
other_member = refl

other_variable : overlaps (said 1 january ∷ []) 1 0 year ≡ false
other_variable = refl

replaced : put_all_in (said 1 january ∷ said 2 february ∷ []) (moving 3 january ∷ []) ≡ moving 3 january ∷ said 2 february ∷ []
replaced = refl

put_behind : put_all_in (said 1 january ∷ []) (moving 3 february ∷ []) ≡ said 1 january ∷ moving 3 february ∷ []
put_behind = refl
