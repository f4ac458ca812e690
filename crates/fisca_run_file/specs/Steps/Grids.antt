-- The grid that the axes of a run file make, or the first of its faults with its line.
use Rattle.std.specs.Prelude.{ℕ, List, [], ◌∷◌, map, ◌==◌, is_some, if◌then◌else◌, Option, Some, None, Result, Ok}
use Rattle.std.specs.Option.{option_or, unwrap_or}
use Rattle.fisca_columns.specs.Faults.{fault_at}
use Rattle.fisca_columns.specs.declared.fault.RunFileFault.{RunFileFault}
use Rattle.fisca_columns.specs.declared.fault.RunFileKind.TheVariants.{Axes}
use Rattle.fisca_grid.specs.Axes.{axis_fault}
use Rattle.fisca_grid.specs.Grid.{axes_fault, groups_of}
use Rattle.fisca_grid.specs.declared.axes.AxesFault.{AxesFault}
use Rattle.fisca_grid.specs.declared.axes.AxesFault.TheVariants.{NoAxes, CountsDiffer, BadCount, TooLarge, UnknownVariable, BadIndex, AxisOverlap, PeriodMismatch, BadBound, Memory}
use Rattle.fisca_grid.specs.declared.axes.AxisSpec.{AxisSpec}
use Rattle.fisca_run_file.specs.SaidAxes.{SaidAxis, SaidAxes}

abbrev pub specs_of : List SaidAxis → List AxisSpec
specs_of = map (λ x. x.spec)

-- the line of the first axis whose count or bounds are outside the limits
abbrev pub bad_line : List SaidAxis → Option ℕ
bad_line [] = None
bad_line (x ∷ xs) = if is_some (axis_fault x.spec) then Some x.line else bad_line xs

-- the line of the first axis that has another count
abbrev pub other_line : ℕ → List SaidAxis → Option ℕ
other_line count [] = None
other_line count (x ∷ xs) = if x.spec.count == count then other_line count xs else Some x.line

-- of the first axis that has not the count of its group's first
abbrev pub differing_line : List SaidAxis → Option ℕ
differing_line [] = None
differing_line (x ∷ xs) = other_line x.spec.count xs

abbrev pub first_differing : List (List SaidAxis) → Option ℕ
first_differing [] = None
first_differing (group ∷ groups) = option_or (differing_line group) (first_differing groups)

-- a fault of one axis has the line of its item, and one of all together that of `axes`, whose key stands on this line
abbrev pub line_of : ℕ → SaidAxes → AxesFault → ℕ
line_of key a CountsDiffer = unwrap_or (first_differing (groups_of a.axes a.lengths)) key
line_of key a BadCount = unwrap_or (bad_line a.axes) key
line_of key a BadBound = unwrap_or (bad_line a.axes) key
line_of key _ _ = key

abbrev pub grid_unless : ℕ → SaidAxes → Option AxesFault → Result (List (List AxisSpec)) RunFileFault
grid_unless key a None = Ok (groups_of (specs_of a.axes) a.lengths)
grid_unless key a (Some f) = fault_at (line_of key a f) (Axes f)

abbrev pub grid_of : ℕ → SaidAxes → Result (List (List AxisSpec)) RunFileFault
grid_of key a = grid_unless key a (axes_fault (specs_of a.axes) a.lengths)
