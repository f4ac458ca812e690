-- The numbers, the exit statuses and the lines of refusals, and which of them say that the sink failed.
use Rattle.std.specs.Prelude.{ℕ, List, [], ◌++◌, codes, string_bytes, Bool, true, false, Result, Ok, Err}
use Rattle.std.specs.Fmt.{decimal}
use Rattle.std.specs.declared.convert.Infallible.{Infallible}
use Rattle.fisca_columns.specs.Faults.{name_of as name_of_file}
use Rattle.fisca_model.specs.EvalFaults.{name_of as name_of_eval}
use Rattle.fisca_grid.specs.AxesFault.{name_of}
use Rattle.fisca_scales.specs.Names.{name_of as name_of_params}
use Rattle.fisca_ast.specs.Faults.{name_of as name_of_kind}
use Rattle.fisca_yaml.specs.Faults.{name_of as name_of_yaml}
use Rattle.fisca_grid.specs.declared.axes.AxesFault.TheVariants as axes
use Rattle.fisca_writer.specs.Run.{is_write as run_is_write}
use Rattle.fisca_writer.specs.declared.fault.RunEnd.{RunEnd}
use Rattle.fisca_writer.specs.declared.fault.RunFault.{RunFault}
use Rattle.fisca_writer.specs.declared.fault.RunFault.TheVariants as run
use Rattle.fisca_folder.specs.Layers.{Told, told_at}
use Rattle.fisca_folder.specs.Shown.{shown}
use Rattle.fisca_test_file.specs.Faults.{name_of as name_of_tests}
use Rattle.fisca_rule_files.specs.declared.refusal.Refusal.{Refusal}
use Rattle.fisca_rule_files.specs.declared.refusal.Unanswered.{Unanswered}
use Rattle.fisca_rule_files.specs.declared.refusal.Refusal.TheVariants.{Params, Formula, Yaml, RunFile, Tests, Axes, BadWord, BadCondition, Run, Eval, Write, Memory, TooManyFiles}

-- each stage that may refuse has a number
abbrev pub number_of : Refusal → ℕ
number_of (Params path line fault) = 1
number_of (Formula path line kind) = 2
number_of (Yaml fault) = 3
number_of (RunFile fault) = 4
number_of (Tests fault) = 5
number_of (Axes fault) = 6
number_of BadWord = 7
number_of BadCondition = 8
number_of (Run fault) = 9
number_of (Eval unanswered) = 10
number_of Write = 11
number_of Memory = 12
number_of TooManyFiles = 13

-- 3: a rule file, the command's own file, the words, the axes, the condition or the position; 4: an evaluation; 5: the output; 6: memory
abbrev pub status_of : Refusal → ℕ
status_of (Params path line fault) = 3
status_of (Formula path line kind) = 3
status_of (Yaml fault) = 3
status_of (RunFile fault) = 3
status_of (Tests fault) = 3
status_of (Axes axes.Memory) = 6
status_of (Axes fault) = 3
status_of BadWord = 3
status_of BadCondition = 3
status_of (Run run.BadPosition) = 3
status_of (Run (run.Eval position unanswered)) = 4
status_of (Run (run.Write position)) = 5
status_of (Run (run.Memory position)) = 6
status_of (Eval unanswered) = 4
status_of Write = 5
status_of Memory = 6
status_of TooManyFiles = 3

-- what is told of a refusal: the plain name of the innermost fault, but for output and memory
abbrev pub reason_of : Refusal → List ℕ
reason_of (Params path line fault) = name_of_params fault
reason_of (Formula path line kind) = name_of_kind kind
reason_of (Yaml fault) = name_of_yaml fault.kind
reason_of (RunFile fault) = name_of_file fault.kind
reason_of (Tests fault) = name_of_tests fault.kind
reason_of (Axes axes.Memory) = codes "out of memory"
reason_of (Axes fault) = name_of fault
reason_of BadWord = codes "BadWord"
reason_of BadCondition = codes "BadCondition"
reason_of (Run run.BadPosition) = codes "BadPosition"
reason_of (Run (run.Eval position unanswered)) = name_of_eval unanswered.fault
reason_of (Run (run.Write position)) = codes "write failed"
reason_of (Run (run.Memory position)) = codes "out of memory"
reason_of (Eval unanswered) = name_of_eval unanswered.fault
reason_of Write = codes "write failed"
reason_of Memory = codes "out of memory"
reason_of TooManyFiles = codes "TooManyFiles"

-- a line of the file at a path
abbrev pub place_in : List ℕ → ℕ → List ℕ
place_in path line = shown path ++ (codes ":" ++ (decimal line ++ codes ": "))

-- a position of a run
abbrev pub position_in : ℕ → List ℕ
position_in position = codes "position " ++ (decimal position ++ codes ": ")

-- how paths are told: that of the command's own file, if it has one, and those of rule files
pub record PathsTold : Type 0 where
  pub file : List ℕ
  pub rules : List Told

abbrev pub paths_of : List ℕ → List Told → PathsTold
paths_of file rules = record { file = file; rules = rules }

-- where the paths of rule files are told as they are
abbrev pub of_file : List ℕ → PathsTold
of_file file = paths_of file []

-- where the fault of a file or of a run stands
abbrev pub place_of : PathsTold → Refusal → List ℕ
place_of paths (Params path line fault) = place_in (told_at paths.rules (string_bytes path)) line
place_of paths (Formula path line kind) = place_in (told_at paths.rules (string_bytes path)) line
place_of paths (Yaml fault) = place_in paths.file fault.line
place_of paths (RunFile fault) = place_in paths.file fault.line
place_of paths (Tests fault) = place_in paths.file fault.line
place_of paths (Axes fault) = []
place_of paths BadWord = []
place_of paths BadCondition = []
place_of paths (Run run.BadPosition) = []
place_of paths (Run (run.Eval position unanswered)) = position_in position
place_of paths (Run (run.Write position)) = []
place_of paths (Run (run.Memory position)) = []
place_of paths (Eval unanswered) = []
place_of paths Write = []
place_of paths Memory = []
place_of paths TooManyFiles = []

-- the text of a key, behind a space
abbrev pub key_in : Unanswered → List ℕ
key_in unanswered = codes " " ++ shown (string_bytes unanswered.key)

-- the key that a fault is told of
abbrev pub key_of : Refusal → List ℕ
key_of (Params path line fault) = []
key_of (Formula path line kind) = []
key_of (Yaml fault) = []
key_of (RunFile fault) = []
key_of (Tests fault) = []
key_of (Axes fault) = []
key_of BadWord = []
key_of BadCondition = []
key_of (Run run.BadPosition) = []
key_of (Run (run.Eval position unanswered)) = key_in unanswered
key_of (Run (run.Write position)) = []
key_of (Run (run.Memory position)) = []
key_of (Eval unanswered) = key_in unanswered
key_of Write = []
key_of Memory = []
key_of TooManyFiles = []

-- the line on standard error
abbrev pub line_of : PathsTold → Refusal → List ℕ
line_of paths refusal = codes "fisca: " ++ (place_of paths refusal ++ (reason_of refusal ++ key_of refusal))

-- the refusal of a run over axes, whose rows are never faults
abbrev pub of_axes : RunFault Infallible → Refusal
of_axes run.BadPosition = Run run.BadPosition
of_axes (run.Eval position fault) = elim fault [ ]
of_axes (run.Write position) = Run (run.Write position)
of_axes (run.Memory position) = Run (run.Memory position)

-- the refusal is that the sink failed
abbrev pub is_failed_write : Refusal → Bool
is_failed_write (Params path line fault) = false
is_failed_write (Formula path line kind) = false
is_failed_write (Yaml fault) = false
is_failed_write (RunFile fault) = false
is_failed_write (Tests fault) = false
is_failed_write (Axes fault) = false
is_failed_write BadWord = false
is_failed_write BadCondition = false
is_failed_write (Run fault) = run_is_write {X = RunEnd} (Err fault)
is_failed_write (Eval unanswered) = false
is_failed_write Write = true
is_failed_write Memory = false
is_failed_write TooManyFiles = false

-- the same of an answer
abbrev pub is_write : {X : Type 0} → Result X Refusal → Bool
is_write (Ok x) = false
is_write (Err refusal) = is_failed_write refusal
