-- What a run of `fisca run` has written that nothing stopped, and one that a fault stopped.
use Rattle.std.specs.Prelude.{◌≡◌, ◌≢◌, ◌≤◌, ◌<◌, ℕ, false, List, Option, Some, None, string_bytes}
use Rattle.std.specs.Io.KnownBytes.{Appends}
use Rattle.fisca_model.specs.declared.eval_fault.EvalFault.{EvalFault}
use Rattle.fisca_writer.specs.Continued.{IsContinued}
use Rattle.fisca_writer.specs.Lines.{FaultAt, lines}
use Rattle.fisca_writer.specs.Ranges.{IsInside, range_end, range_lines}
use Rattle.fisca_writer.specs.Row.{Row, Fault}
use Rattle.fisca_writer.specs.Run.{texts}
use Rattle.fisca_writer.specs.declared.fault.RunEnd.{RunEnd}
use Rattle.fisca_writer.specs.declared.fault.RunEnd.TheVariants.{End, More}
use Rattle.fisca_writer.specs.declared.limit.Limit.{Limit}
use Rattle.fisca_grid_run.specs.Runs.{positions, run_row}
use Rattle.fisca_command_line.specs.declared.options.RunOptions.{RunOptions}
use Rattle.fisca_rows.specs.declared.style.RowStyle.{RowStyle}
use Rattle.fisca_grid_run.specs.Run.{Running}
use Rattle.fisca_grid_run.specs.Unanswered.{key_told}
use Rattle.fisca_rule_files.specs.declared.refusal.Unanswered.{Unanswered}

-- what stands at a position: the line with the values that the rules define in the situation there, or nothing where a condition does not hold, or a fault
abbrev pub row_of : Running → RowStyle → ℕ → Row EvalFault
row_of r style = run_row r.rules style r.run

abbrev pub size_of : Running → ℕ
size_of r = positions r.run

-- the lines from a position on, up to a limit, each with its position
abbrev pub lines_from : Running → RowStyle → ℕ → Limit → List (ℕ × List ℕ)
lines_from r style from limit = range_lines (row_of r style) (size_of r) from limit

-- all lines from a position on
abbrev pub all_from : Running → RowStyle → ℕ → List (ℕ × List ℕ)
all_from r style from = lines (row_of r style) (size_of r) from None

-- options that ask for no form, and do not keep a run going
pub record ArePlain (options : RunOptions) : Type 0 where
  pub header : options.form.header ≡ false
  pub decimals : options.form.decimals ≡ None
  pub format : options.form.format ≡ None
  pub stops : options.keeps_going ≡ false

-- Exactly the lines from the start up to the limit are written, where a sink held `old` and then holds `new`; the position that is answered continues with
-- exactly the remaining lines, and where none is answered no line remains.
pub record IsWhole (r : Running) (style : RowStyle) (from : ℕ) (limit : Limit) (old new : Option (List ℕ)) (end : RunEnd) : Type 0 where
  pub inside : IsInside (size_of r) from limit
  pub written : Appends old new (texts (lines_from r style from limit))
  pub continues : (position : ℕ) → end ≡ More position → IsContinued (row_of r style) (size_of r) from limit position
  pub ended : end ≡ End → all_from r style from ≡ lines_from r style from limit

-- The first fault from the start on, which is met before the limit is reached, stands at the position that is named and is told with its key; exactly the lines
-- before it are written, and none remains before it.
pub record IsFaulted (r : Running) (style : RowStyle) (from : ℕ) (limit : Limit) (old new : Option (List ℕ)) (position : ℕ) (u : Unanswered) : Type 0 where
  pub behind : from ≤ position
  pub within : position < size_of r
  pub there : row_of r style position ≡ Fault u.fault
  pub first : (before : ℕ) (x : EvalFault) → from ≤ before → before < position → row_of r style before ≢ Fault x
  pub stops : range_end (row_of r style) (size_of r) from limit ≡ FaultAt position u.fault
  pub key : key_told r.rules r.run.members u.fault ≡ Some (string_bytes u.key)
  pub written : Appends old new (texts (lines_from r style from limit))
  pub none_left : all_from r style from ≡ lines_from r style from limit
