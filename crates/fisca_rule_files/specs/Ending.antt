-- How a command ends: its exit status, and what it tells.
use Rattle.std.specs.Prelude.{◌≡◌, ◌≢◌, ◌⊎◌, ℕ, ◌==◌, ◌++◌, if◌then◌else◌, Bool, List, [], codes, Option, Some, None}
use Rattle.fisca_folder.specs.Shown.{shown}
use Rattle.fisca_rule_files.specs.Refusal.{PathsTold, status_of, line_of, of_file}
use Rattle.fisca_rule_files.specs.declared.refusal.Refusal.{Refusal}
use Rattle.fisca_rule_files.specs.declared.refusal.Refusal.TheVariants.{Memory}
use Rattle.fisca_test_file.specs.declared.all.Verdict.{Verdict}
use Rattle.fisca_writer.specs.LastLine.{end_text}
use Rattle.fisca_writer.specs.declared.fault.RunEnd.{RunEnd}

-- an exit status, and what is told on standard error
pub record TaskOutcome : Type 0 where
  pub status : ℕ
  pub told : Option (List ℕ)

abbrev pub done : TaskOutcome
done = record { status = 0; told = None }

-- the status and the line of a refusal, by how paths are told
abbrev pub told_of : PathsTold → Refusal → TaskOutcome
told_of paths refusal = record { status = status_of refusal; told = Some (line_of paths refusal) }

-- a refusal is told or, where it is no failed write, perhaps that memory was refused
abbrev pub IsTold : PathsTold → Refusal → TaskOutcome → Type 0
IsTold paths refusal outcome = (outcome ≡ told_of paths refusal) ⊎ ((outcome ≡ told_of paths Memory) × (status_of refusal ≢ 5))

-- the status of a run that nothing stopped says whether a word stands in the place of a value
abbrev pub run_status : Bool → ℕ
run_status lacks = if lacks then 4 else 0

abbrev pub run_done : Bool → TaskOutcome
run_done lacks = record { status = run_status lacks; told = None }

-- the last line of a run is told, or that there is no memory for it
abbrev pub IsEndTold : RunEnd → Bool → TaskOutcome → Type 0
IsEndTold end lacks outcome = (outcome ≡ record { status = run_status lacks; told = Some (end_text end) }) ⊎ (outcome ≡ told_of (of_file []) Memory)

-- the status says whether a test failed
abbrev pub judged : Verdict → TaskOutcome
judged verdict = record { status = if verdict.failed == 0 then 0 else 1; told = None }

-- it is told that the file at a path cannot be read further, or that memory was refused
abbrev pub unread_text : List ℕ → List ℕ
unread_text path = codes "fisca: " ++ (shown path ++ codes ": cannot read")

abbrev pub IsUnreadTold : List ℕ → TaskOutcome → Type 0
IsUnreadTold path outcome = (outcome ≡ record { status = 5; told = Some (unread_text path) }) ⊎ (outcome ≡ told_of (of_file path) Memory)
