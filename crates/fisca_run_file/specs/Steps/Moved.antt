-- The steps of code behind `Moved`:
-- The inputs that axes move: of which variable, member and period each is.
use Rattle.std.specs.Prelude.{ℕ, List, nat_lt, if◌then◌else◌, Option, Some, None, option_and_then, Result, Ok, slice_get}
use Rattle.fisca_columns.specs.Faults.{fault_at}
use Rattle.fisca_columns.specs.declared.fault.RunFileFault.{RunFileFault}
use Rattle.fisca_columns.specs.declared.fault.RunFileKind.TheVariants as kind
use Rattle.fisca_grid.specs.declared.axes.AxesFault.TheVariants.{UnknownVariable, BadIndex, PeriodMismatch}
use Rattle.fisca_inputs.specs.Rules.{rule_of, is_accepted}
use Rattle.fisca_inputs.specs.declared.given.Given.{Given}
use Rattle.fisca_model.specs.declared.value.Value.TheVariants.{Number}
use Rattle.fisca_model.specs.Periods.{is_eternity, key_period}
use Rattle.fisca_groups.specs.Lookup.{count_at}
use Rattle.fisca_groups.specs.declared.entity_members.EntityMembers.{EntityMembers}
use Rattle.fisca_num.specs.Number.{zero_number}
use Rattle.fisca_situations.specs.Steps.Reading.{variable_of}
use Rattle.fisca_situations.specs.Steps.Slots.{has_numbers}
use Rattle.fisca_symbols.specs.declared.tables.Tables.{Tables}
use Rattle.fisca_symbols.specs.declared.variable.Variable.{Variable}
use Rattle.fisca_time.specs.Period.{Span, eternity}
use Rattle.fisca_model.specs.Tables.{otherwise}
use Rattle.fisca_run_file.specs.SaidAxes.{SaidAxis}

-- What an axis moves

abbrev pub if_numbers : ℕ → Variable → Option (ℕ × Variable)
if_numbers place x = if has_numbers x.value_type then Some (place, x) else None

-- the variable of this name, with its place, where its values are numbers
abbrev pub variable_moved : Tables → List ℕ → Option (ℕ × Variable)
variable_moved c name = option_and_then (λ place. option_and_then (if_numbers place) (slice_get c.variables place)) (variable_of c name)

-- an input is given for such periods; an eternal variable needs none
abbrev pub period_moved : Variable → Option Span → Option Span
period_moved x None = if is_eternity x.definition_period then Some eternity else None
period_moved x (Some p) = if is_accepted (rule_of x) p then Some (key_period x.definition_period p) else None

-- the value stands for that of any step
abbrev pub moved_at : SaidAxis → ℕ → Span → Given
moved_at a place p = record { variable = place; member = a.index; period = p; value = Number zero_number; line = a.line }

abbrev pub moved_or_fault : SaidAxis → ℕ → Option Span → Result Given RunFileFault
moved_or_fault a place None = fault_at a.line (kind.Axes PeriodMismatch)
moved_or_fault a place (Some p) = Ok (moved_at a place p)

-- the period is that of the axis, or else that of the file
abbrev pub moved_of : List EntityMembers → Option Span → SaidAxis → Option (ℕ × Variable) → Result Given RunFileFault
moved_of ms default a None = fault_at a.line (kind.Axes UnknownVariable)
moved_of ms default a (Some x) =
    if nat_lt a.index (count_at ms x.1.entity) then moved_or_fault a x.0 (period_moved x.1 (otherwise a.period default))
    else fault_at a.line (kind.Axes BadIndex)

abbrev pub moved_by : Tables → List EntityMembers → Option Span → SaidAxis → Result Given RunFileFault
moved_by c ms default a = moved_of ms default a (variable_moved c a.name)
