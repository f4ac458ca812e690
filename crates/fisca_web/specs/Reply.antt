-- What a page is told of its message.
use Rattle.std.specs.Prelude.{◌≡◌, ℕ, Bool, false, MatchOption, if◌then◌else◌, ◌+◌, List, [], ◌∷◌, ◌++◌, drop, take, length, map, Option, Some, None, option_map, string_bytes, unwrap_or}
use Rattle.std.specs.Str.{bytes_eq}
use Rattle.clap.specs.Simple.{subcommand_of}
use Rattle.fisca_params.specs.Source.{Source}
use Rattle.fisca_command_line.specs.CommandLine.{fisca_app}
use Rattle.fisca_command_line.specs.Work.{IsWorkOf}
use Rattle.fisca_command_line.specs.declared.task.LinesTask.{LinesTask}
use Rattle.fisca_command_line.specs.declared.task.Task.{Task}
use Rattle.fisca_command_line.specs.declared.task.TestsTask.{TestsTask}
use Rattle.fisca_command_line.specs.declared.task.Work.{Work}
use Rattle.fisca_command_line.specs.declared.task.Work.TheVariants as work
use Rattle.fisca_rule_files.specs.Ending.{TaskOutcome}
use Rattle.fisca_rule_files.specs.Refusal.{paths_of}
use Rattle.fisca_commands.specs.CalcLines.{IsCalcLines, Streams, streams_of}
use Rattle.fisca_commands.specs.Ending.{IsTaskEnding, IsTestEnding}
use Rattle.fisca_commands.specs.ManyTests.{IsTestsEnding}
use Rattle.fisca_web.specs.Message.{first_parts, files_of, part_of}
use Rattle.fisca_web.specs.TextLines.{lines_of}
use Rattle.fisca_web.specs.declared.reply.Reply.{Reply}

-- the bytes of a room say what was written, and behind it what is told
pub record Says (written told : List ℕ) (ended : ℕ) (room : List ℕ) (reply : Reply) : Type 0 where
  pub status : reply.status ≡ ended
  pub count : reply.written ≡ length written
  pub line : reply.told ≡ length told
  pub bytes : take (reply.written + reply.told) room ≡ written ++ told

-- a page is told how that ended which ends so where a sink held the first and then holds the second, and what it wrote
pub record IsTold (Ends : Option (List ℕ) → Option (List ℕ) → TaskOutcome → Type 0) (room : List ℕ) (reply : Reply) : Type 0 where
  pub written : List ℕ
  pub outcome : TaskOutcome
  pub ending : Ends (Some []) (Some written) outcome
  pub says : Says written (unwrap_or outcome.told []) outcome.status room reply

-- how a task ended over these files, whose paths are told as they are, and this text
abbrev pub IsTaskReply : Task → List Source → List ℕ → List ℕ → Reply → Type 0
IsTaskReply task files text = IsTold (IsTaskEnding task files [] text)

-- the paths are that of a file alone
abbrev pub is_named : List (List ℕ) → Source → Bool
is_named (path ∷ []) file = bytes_eq path file.path
is_named paths file = false

-- the file of tests, if it is the only one, and the paths are its own alone
abbrev pub own_file : List (List ℕ) → List Source → Option Source
own_file paths (file ∷ []) = if is_named paths file then Some file else None
own_file paths files = None

-- how the tests of a file ended over these rule files
abbrev pub IsTestReply : TestsTask → List Source → Source → List ℕ → Reply → Type 0
IsTestReply task rules file = IsTold (IsTestEnding rules (paths_of file.path []) file.text (option_map (λ text. text.now) task.name))

-- how the tests of several files ended over these rule files
abbrev pub IsFilesReply : TestsTask → List Source → List Source → List ℕ → Reply → Type 0
IsFilesReply task rules tests = IsTold (IsTestsEnding rules [] tests (option_map (λ text. text.now) task.name))

-- how tests ended over these rule files: those of one file that the words name, or else those of several
abbrev pub IsTestsReply : TestsTask → List Source → List Source → List ℕ → Reply → Type 0
IsTestsReply task rules tests room reply =
    MatchOption (own_file (map (λ path. string_bytes path) task.paths.items) tests) (IsFilesReply task rules tests room reply) (λ file. IsTestReply task rules file room reply)

-- how the lines of a text ended over these files: what is told of them stands before the line of the end
pub record IsLinesReply (task : LinesTask) (files : List Source) (text room : List ℕ) (reply : Reply) : Type 0 where
  pub old : Streams
  pub new : Streams
  pub begun : old ≡ streams_of (Some (lines_of text)) (Some []) 0 (Some []) 0
  pub written : List ℕ
  pub told : List ℕ
  pub ended : (new.sink.taken ≡ Some written) × (new.told.taken ≡ Some told)
  pub outcome : TaskOutcome
  pub ending : IsCalcLines files [] task.file.now task.form old new outcome
  pub says : Says written (told ++ unwrap_or outcome.told []) outcome.status room reply

-- how what words ask for ended over rule files, files of tests and a text
abbrev pub IsWorkReply : Work → List Source → List Source → List ℕ → List ℕ → Reply → Type 0
IsWorkReply (work.Task task) files tests text room reply = IsTaskReply task files text room reply
IsWorkReply (work.Lines task) files tests text room reply = IsLinesReply task files text room reply
IsWorkReply (work.Tests task) files tests text room reply = IsTestsReply task files tests room reply

-- these words ask for something, and the page is told how it ended
abbrev pub IsAnswered : List (List ℕ) → List Source → List Source → List ℕ → List ℕ → Reply → Type 0
IsAnswered words files tests text room reply =
    (asked : Work) × IsWorkOf (subcommand_of fisca_app words) asked × IsWorkReply asked files tests text room reply

-- the words of the message ask for something, and the page is told how it ended over the files and the text of the message, of which so many are tests
abbrev pub IsReply : List ℕ → List ℕ → ℕ → ℕ → List ℕ → Reply → Type 0
IsReply bytes ends words tests =
    IsAnswered (first_parts bytes ends words) (drop tests (files_of bytes ends words)) (take tests (files_of bytes ends words)) (part_of bytes ends words)
