-- What `fisca axes` answers and writes.
use Rattle.std.specs.Prelude.{◌≡◌, ◌⊎◌, ℕ, List, ◌∷◌, codes, map, Option, Some, None, Result, Ok, Err, if◌then◌else◌, MatchResult}
use Rattle.std.specs.Option.{option_or}
use Rattle.std.specs.Io.KnownBytes.{Keeps}
use Rattle.fisca_grid.specs.AxesRow.{axes_row}
use Rattle.fisca_forms.specs.LineForms.{Form}
use Rattle.fisca_grid.specs.FormedRow.{formed_row}
use Rattle.fisca_grid.specs.Grid.{axes_fault, groups_of, size_of}
use Rattle.fisca_grid.specs.NamedAxes.{specs_of, filter_from}
use Rattle.fisca_grid.specs.Steps.NamedAxes.{name_of, own_groups, has_twins}
use Rattle.fisca_writer.specs.Ranges.{IsBeyond, limit_in, range_start}
use Rattle.fisca_writer.specs.Row.{Row}
use Rattle.fisca_writer.specs.Run.{IsRun}
use Rattle.fisca_grid.specs.declared.axes.AxisSpec.{AxisSpec}
use Rattle.fisca_grid.specs.declared.axes.AxesFault.{AxesFault}
use Rattle.fisca_grid.specs.declared.axes.AxesFault.TheVariants.{AxisOverlap}
use Rattle.fisca_grid.specs.declared.condition.Filter.{Filter}
use Rattle.fisca_writer.specs.declared.fault.RunEnd.{RunEnd}
use Rattle.fisca_writer.specs.declared.fault.RunFault.{RunFault}
use Rattle.fisca_writer.specs.declared.fault.RunFault.TheVariants as run_fault
use Rattle.fisca_writer.specs.declared.limit.Limit.{Limit}
use Rattle.fisca_grid_run.specs.Forms.{IsBegunTable, IsHeaderRefused, asked_names, line_form_of, shown_form}
use Rattle.fisca_command_line.specs.declared.options.RunOptions.{RunOptions}
use Rattle.std.specs.declared.convert.Infallible.{Infallible}
use Rattle.fisca_rule_files.specs.declared.refusal.Refusal.{Refusal}
use Rattle.fisca_rule_files.specs.declared.refusal.Refusal.TheVariants.{Axes, BadWord, BadCondition, Memory, Run}
use Rattle.fisca_rule_files.specs.Refusal.{of_axes}

-- the grid of a run, and its condition
pub record FilteredAxes : Type 0 where
  pub axes : List (List AxisSpec)
  pub keep : Option Filter

-- a condition, which a text that is given has to state
abbrev pub required_filter : Option Filter → Result (Option Filter) Refusal
required_filter None = Err BadCondition
required_filter (Some filter) = Ok (Some filter)

-- the condition that a text states of one of the axes of these names, if a text is given
abbrev pub optional_filter : List (List ℕ) → Option (List ℕ) → Result (Option Filter) Refusal
optional_filter names None = Ok None
optional_filter names (Some text) = required_filter (filter_from 0 names text)

-- a grid with its condition
abbrev pub filtered_axes : List (List AxisSpec) → Result (Option Filter) Refusal → Result FilteredAxes Refusal
filtered_axes axes (Ok keep) = Ok (record { axes = axes; keep = keep })
filtered_axes axes (Err refusal) = Err refusal

-- the fault of axes of these names: that of the grid, or else that two have one name
abbrev pub named_fault : List (List ℕ) → Option AxesFault → Option AxesFault
named_fault names fault = option_or fault (if has_twins names then Some AxisOverlap else None)

-- axes of these names, which have to make a grid, with the condition that this text states of one of them
abbrev pub axes_within_limits : List (List ℕ) → List AxisSpec → Option AxesFault → Option (List ℕ) → Result FilteredAxes Refusal
axes_within_limits names specs None keep = filtered_axes (groups_of specs (own_groups specs)) (optional_filter names keep)
axes_within_limits names specs (Some fault) keep = Err (Axes fault)

-- the axes that words describe, as they have to
abbrev pub required_axes : List (List ℕ) → Option (List AxisSpec) → Option (List ℕ) → Result FilteredAxes Refusal
required_axes names None keep = Err BadWord
required_axes names (Some specs) keep = axes_within_limits names specs (named_fault names (axes_fault specs (own_groups specs))) keep

-- the grid that the words describe, each an axis that is a group of its own, with the condition that this text states, or the first refusal: of the words, then of the axes, then of the condition
abbrev pub axes_of_words : List (List ℕ) → Option (List ℕ) → Result FilteredAxes Refusal
axes_of_words words keep = required_axes (map name_of words) (specs_of words) keep

-- where a run with these options begins, and where it ends, if before the last position
abbrev pub start_of : FilteredAxes → RunOptions → ℕ
start_of run options = range_start (size_of run.axes) options.range

abbrev pub limit_of : FilteredAxes → RunOptions → Limit
limit_of run options = limit_in (size_of run.axes) options.range options.rows

-- what stands at a position, in the plain form or in the one that is given
abbrev pub axes_row_in : Option Form → FilteredAxes → ℕ → Row Infallible
axes_row_in None run = axes_row run.axes run.keep
axes_row_in (Some form) run = formed_row form run.axes run.keep

-- what a run over the axes answers, and what a sink that held `old` then holds
abbrev pub IsAxesRun : FilteredAxes → Option Form → ℕ → Limit → Option (List ℕ) → Option (List ℕ) → Result RunEnd Refusal → Type 0
IsAxesRun run form from limit old new (Ok end) = IsRun (axes_row_in form run) (size_of run.axes) from limit old new (Ok end)
IsAxesRun run form from limit old new (Err refusal) =
    ((refusal ≡ Memory) × Keeps old new)
    ⊎ ((fault : RunFault Infallible) × (refusal ≡ of_axes fault) × IsRun (axes_row_in form run) (size_of run.axes) from limit old new (Err fault))

-- the names of the cells
abbrev pub axes_names : List (List ℕ) → List (List ℕ)
axes_names words = codes "position" ∷ map name_of words

-- the grid has no such start or stop, and nothing is written; or the first line is not written whole; or it is, and then the lines of the run
abbrev pub IsAxesTold : List (List ℕ) → FilteredAxes → RunOptions → Option (List ℕ) → Option (List ℕ) → Result RunEnd Refusal → Type 0
IsAxesTold words run options old new answer =
    (IsBeyond (size_of run.axes) (start_of run options) (limit_of run options) × (answer ≡ Err (Run run_fault.BadPosition)) × Keeps old new)
    ⊎ (((refusal : Refusal) × (answer ≡ Err refusal) × IsHeaderRefused options.form (axes_names words) old new refusal)
    ⊎ ((between : Option (List ℕ)) × IsBegunTable options.form (axes_names words) old between
    × IsAxesRun run (shown_form (line_form_of options.form (asked_names options.form (axes_names words)))) (start_of run options) (limit_of run options) between new answer))

-- the answer is this refusal, or that memory was refused, and nothing is written
abbrev pub IsRefused : Refusal → Option (List ℕ) → Option (List ℕ) → Result RunEnd Refusal → Type 0
IsRefused refusal old new answer = ((answer ≡ Err refusal) ⊎ (answer ≡ Err Memory)) × Keeps old new

-- what `axes` answers for these words, this condition and these options, where a sink held `old` and then holds `new`
abbrev pub IsAxesAnswer : List (List ℕ) → Option (List ℕ) → RunOptions → Option (List ℕ) → Option (List ℕ) → Result RunEnd Refusal → Type 0
IsAxesAnswer words keep options old new answer = MatchResult (axes_of_words words keep) (λ run. IsAxesTold words run options old new answer) (λ refusal. IsRefused refusal old new answer)
