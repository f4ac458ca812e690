-- The work that the words of a command line ask for.
use Rattle.std.specs.Prelude.{◌≡◌, ◌⊎◌, true, false, List, map, codes, Option, Some, None, option_map, string_bytes}
use Rattle.clap.specs.Walk.{Row, Text, first_of, one_of}
use Rattle.fisca_command_line.specs.declared.task.Task.{Task}
use Rattle.fisca_command_line.specs.declared.task.Task.TheVariants as task
use Rattle.fisca_command_line.specs.Asked.{explain_format_at, text_of, texts_of, is_set, AreOptions, IsForm, IsOptionalNumber}
use Rattle.fisca_command_line.specs.declared.task.LinesTask.{LinesTask}
use Rattle.fisca_command_line.specs.declared.task.RuleFolders.{RuleFolders}
use Rattle.fisca_command_line.specs.declared.task.TestsTask.{TestsTask}
use Rattle.fisca_command_line.specs.declared.task.Work.{Work}
use Rattle.fisca_command_line.specs.declared.task.Work.TheVariants as work

-- the folders of rules that the matches of a command say
abbrev pub AreFolders : List Row → RuleFolders → Type 0
AreFolders rows folders =
    (folders.rules.now ≡ text_of (codes "RULES") rows) × (map (λ reform. string_bytes reform) folders.reforms.items ≡ texts_of (codes "reform") rows)

-- the task that the matches of `axes` say
abbrev pub IsAxesTask : List Row → Task → Type 0
IsAxesTask rows (task.Axes words keep options) =
    (map (λ word. string_bytes word) words.items ≡ texts_of (codes "AXIS") rows)
    × (option_map (λ text. text.now) keep ≡ first_of (codes "keep") rows)
    × AreOptions rows options
IsAxesTask rows _ = ⊥

-- the task that the matches of `check` say
abbrev pub IsCheckTask : List Row → Task → Type 0
IsCheckTask rows (task.Check rules) = AreFolders rows rules
IsCheckTask rows _ = ⊥

-- the task that the matches of `calc` say
abbrev pub IsCalcTask : List Row → Task → Type 0
IsCalcTask rows (task.Calc rules file form) = AreFolders rows rules × (file.now ≡ text_of (codes "FILE") rows) × IsForm rows form
IsCalcTask rows _ = ⊥

-- the task that the matches of `run` say
abbrev pub IsRunTask : List Row → Task → Type 0
IsRunTask rows (task.Run rules file options) = AreFolders rows rules × (file.now ≡ text_of (codes "FILE") rows) × AreOptions rows options
IsRunTask rows _ = ⊥

-- the task that the matches of `size` say
abbrev pub IsSizeTask : List Row → Task → Type 0
IsSizeTask rows (task.Size rules file) = AreFolders rows rules × (file.now ≡ text_of (codes "FILE") rows)
IsSizeTask rows _ = ⊥

-- the task that the matches of `list` say
abbrev pub IsListTask : List Row → Task → Type 0
IsListTask rows (task.List rules form) = AreFolders rows rules × IsForm rows form
IsListTask rows _ = ⊥

-- the task that the matches of `explain` say
abbrev pub IsExplainTask : List Row → Task → Type 0
IsExplainTask rows (task.Explain rules file columns depth format) =
    AreFolders rows rules
    × (file.now ≡ text_of (codes "FILE") rows)
    × (map (λ column. string_bytes column) columns.items ≡ texts_of (codes "COLUMN") rows)
    × IsOptionalNumber (one_of (codes "depth") rows) depth
    × (format ≡ explain_format_at rows)
IsExplainTask rows _ = ⊥

-- the task over lines that the matches of `calc` say
abbrev pub IsLinesTask : List Row → LinesTask → Type 0
IsLinesTask rows task = AreFolders rows task.rules × (task.file.now ≡ text_of (codes "FILE") rows) × IsForm rows task.form

-- the task over files and folders of tests that the matches of `test` say
abbrev pub IsTestsTask : List Row → TestsTask → Type 0
IsTestsTask rows task =
    AreFolders rows task.rules × (map (λ path. string_bytes path) task.paths.items ≡ texts_of (codes "TESTS") rows) × (option_map (λ text. text.now) task.name ≡ first_of (codes "name") rows)

-- the work is a task of this kind
abbrev pub IsTask : (Task → Type 0) → Work → Type 0
IsTask kind (work.Task task) = kind task
IsTask kind (work.Lines lines) = ⊥
IsTask kind (work.Tests tests) = ⊥

-- the work that the matches of `test` say
abbrev pub IsTestsWork : List Row → Work → Type 0
IsTestsWork rows (work.Task task) = ⊥
IsTestsWork rows (work.Lines lines) = ⊥
IsTestsWork rows (work.Tests tests) = IsTestsTask rows tests

-- the work that the matches of `calc` say: over lines where the flag is set
abbrev pub IsCalcWork : List Row → Work → Type 0
IsCalcWork rows (work.Task task) = (is_set (first_of (codes "lines") rows) ≡ false) × IsCalcTask rows task
IsCalcWork rows (work.Lines lines) = (is_set (first_of (codes "lines") rows) ≡ true) × IsLinesTask rows lines
IsCalcWork rows (work.Tests tests) = ⊥

-- the work of the command with this name and these matches
abbrev pub IsWorkOf : Option (Text × List Row) → Work → Type 0
IsWorkOf None w = ⊥
IsWorkOf (Some command) w =
    ((command.0 ≡ codes "check") × IsTask (IsCheckTask command.1) w)
    ⊎ (((command.0 ≡ codes "calc") × IsCalcWork command.1 w)
    ⊎ (((command.0 ≡ codes "test") × IsTestsWork command.1 w)
    ⊎ (((command.0 ≡ codes "run") × IsTask (IsRunTask command.1) w)
    ⊎ (((command.0 ≡ codes "size") × IsTask (IsSizeTask command.1) w)
    ⊎ (((command.0 ≡ codes "list") × IsTask (IsListTask command.1) w)
    ⊎ (((command.0 ≡ codes "explain") × IsTask (IsExplainTask command.1) w) ⊎ ((command.0 ≡ codes "axes") × IsTask (IsAxesTask command.1) w)))))))
