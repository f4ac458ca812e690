-- How a command ends: what it answers, tells and writes.
use Rattle.std.specs.Prelude.{◌≡◌, ◌⊎◌, ℕ, Bool, true, false, List, [], map, Option, option_map, Result, Ok, Err, IfOk, string_bytes}
use Rattle.std.specs.Io.KnownBytes.{Appends, Keeps}
use Rattle.fisca_writer.specs.Run.{AppendsPart}
use Rattle.fisca_writer.specs.declared.fault.RunEnd.{RunEnd}
use Rattle.fisca_evaluator.specs.declared.counts.Counts.{Counts}
use Rattle.fisca_params.specs.Source.{Source}
use Rattle.fisca_rule_files.specs.Ending.{TaskOutcome, IsEndTold, IsTold, done, judged, run_done, told_of}
use Rattle.fisca_rule_files.specs.declared.refusal.Refusal.{Refusal}
use Rattle.fisca_rule_files.specs.declared.refusal.Refusal.TheVariants.{Write}
use Rattle.fisca_command_line.specs.declared.task.Task.{Task}
use Rattle.fisca_command_line.specs.declared.task.Task.TheVariants as task
use Rattle.fisca_commands.specs.AxesRun.{IsAxesAnswer}
use Rattle.fisca_commands.specs.Calc.{IsCalc}
use Rattle.fisca_commands.specs.Explain.{IsExplain}
use Rattle.fisca_rule_files.specs.Check.{IsCheck}
use Rattle.fisca_grid_run.specs.Forms.{is_table}
use Rattle.fisca_writer.specs.LastLine.{last_line}
use Rattle.fisca_commands.specs.Listed.{IsList}
use Rattle.fisca_grid_run.specs.Run.{IsCounted, IsRunAnswer}
use Rattle.fisca_commands.specs.Size.{IsSize}
use Rattle.fisca_command_line.specs.declared.options.RunOptions.{RunOptions}
use Rattle.fisca_forms.specs.declared.form.Format.{Format}
use Rattle.fisca_command_line.specs.declared.options.TableForm.{TableForm}
use Rattle.fisca_commands.specs.Test.{IsTest}
use Rattle.fisca_test_file.specs.declared.all.Verdict.{Verdict}
use Rattle.fisca_folder.specs.Layers.{Told}
use Rattle.fisca_rule_files.specs.Refusal.{PathsTold, of_file, paths_of}

-- how a run ends that gave this answer: it is done with its last line, or the sink fails in that line;
-- behind a table the last line is told, and no more is written; so is a refusal
abbrev pub IsRunEnding : PathsTold → Bool → Bool → Result RunEnd Refusal → Option (List ℕ) → Option (List ℕ) → TaskOutcome → Type 0
IsRunEnding paths lacks true (Ok end) old new outcome = IsEndTold end lacks outcome × Keeps old new
IsRunEnding paths lacks false (Ok end) old new outcome =
    ((outcome ≡ run_done lacks) × Appends old new (last_line end))
    ⊎ ((outcome ≡ told_of paths Write) × AppendsPart (last_line end) old new)
IsRunEnding paths lacks table (Err refusal) old new outcome = IsTold paths refusal outcome × Keeps old new

-- how `axes` ends: the run writes its lines, and then ends
pub record IsAxesEnding (words : List (List ℕ)) (keep : Option (List ℕ)) (options : RunOptions) (old new : Option (List ℕ)) (outcome : TaskOutcome) : Type 0 where
  pub answer : Result RunEnd Refusal
  pub between : Option (List ℕ)
  pub run : IsAxesAnswer words keep options old between answer
  pub end : IsRunEnding (of_file []) false (is_table options.form) answer between new outcome

-- how `run` ends over a file: the run writes its lines, and then ends
pub record IsGridEnding (files : List Source) (paths : PathsTold) (text : List ℕ) (options : RunOptions) (old new : Option (List ℕ)) (outcome : TaskOutcome) : Type 0 where
  pub answer : Result RunEnd Refusal
  pub between : Option (List ℕ)
  pub run : IsRunAnswer files text options old between answer
  pub lacks : Bool
  pub lacking : IfOk answer (λ end. (counts : Counts) × IsCounted files text options old between false lacks end counts)
  pub end : IsRunEnding paths lacks (is_table options.form) answer between new outcome

-- a command that writes no last line is done, or its refusal is told
abbrev pub IsAnswered : PathsTold → Result Unit Refusal → TaskOutcome → Type 0
IsAnswered paths (Ok unit) outcome = outcome ≡ done
IsAnswered paths (Err refusal) outcome = IsTold paths refusal outcome

-- how `check` ends
abbrev pub IsCheckEnding : List Source → PathsTold → Option (List ℕ) → Option (List ℕ) → TaskOutcome → Type 0
IsCheckEnding files paths old new outcome = (answer : Result Unit Refusal) × IsCheck files old new answer × IsAnswered paths answer outcome

-- how `calc` ends over a file
abbrev pub IsCalcEnding : List Source → PathsTold → List ℕ → TableForm → Option (List ℕ) → Option (List ℕ) → TaskOutcome → Type 0
IsCalcEnding files paths text form old new outcome = (answer : Result Unit Refusal) × IsCalc files text form old new answer × IsAnswered paths answer outcome

-- how `size` ends over a file
abbrev pub IsSizeEnding : List Source → PathsTold → List ℕ → Option (List ℕ) → Option (List ℕ) → TaskOutcome → Type 0
IsSizeEnding files paths text old new outcome = (answer : Result Unit Refusal) × IsSize files text old new answer × IsAnswered paths answer outcome

-- how `list` ends
abbrev pub IsListEnding : List Source → PathsTold → TableForm → Option (List ℕ) → Option (List ℕ) → TaskOutcome → Type 0
IsListEnding files paths form old new outcome = (answer : Result Unit Refusal) × IsList files form old new answer × IsAnswered paths answer outcome

-- how `explain` ends over a file
abbrev pub IsExplainEnding : List Source → PathsTold → List ℕ → List (List ℕ) → Option ℕ → Option Format → Option (List ℕ) → Option (List ℕ) → TaskOutcome → Type 0
IsExplainEnding files paths text columns depth format old new outcome =
    (answer : Result Unit Refusal) × IsExplain files text columns depth format old new answer × IsAnswered paths answer outcome

-- tests that were all worked out are judged, or the refusal is told
abbrev pub IsJudged : PathsTold → Result Verdict Refusal → TaskOutcome → Type 0
IsJudged paths (Ok verdict) outcome = outcome ≡ judged verdict
IsJudged paths (Err refusal) outcome = IsTold paths refusal outcome

-- how `test` ends over one file
abbrev pub IsTestEnding : List Source → PathsTold → List ℕ → Option (List ℕ) → Option (List ℕ) → Option (List ℕ) → TaskOutcome → Type 0
IsTestEnding files paths text name old new outcome = (answer : Result Verdict Refusal) × IsTest files text name old new answer × IsJudged paths answer outcome

-- how a task ends over the files of its folders, whose paths are told so, and the text of its own file, where a sink held `old` and then holds `new`
abbrev pub IsTaskEnding : Task → List Source → List Told → List ℕ → Option (List ℕ) → Option (List ℕ) → TaskOutcome → Type 0
IsTaskEnding (task.Check rules) files told text old new outcome = IsCheckEnding files (paths_of [] told) old new outcome
IsTaskEnding (task.Calc rules file form) files told text old new outcome = IsCalcEnding files (paths_of file.now told) text form old new outcome
IsTaskEnding (task.Run rules file options) files told text old new outcome = IsGridEnding files (paths_of file.now told) text options old new outcome
IsTaskEnding (task.Size rules file) files told text old new outcome = IsSizeEnding files (paths_of file.now told) text old new outcome
IsTaskEnding (task.List rules form) files told text old new outcome = IsListEnding files (paths_of [] told) form old new outcome
IsTaskEnding (task.Explain rules file columns depth format) files told text old new outcome =
    IsExplainEnding files (paths_of file.now told) text (map (λ column. string_bytes column) columns.items) depth format old new outcome
IsTaskEnding (task.Axes words keep options) files told text old new outcome = IsAxesEnding (map (λ word. string_bytes word) words.items) (option_map (λ text. text.now) keep) options old new outcome
