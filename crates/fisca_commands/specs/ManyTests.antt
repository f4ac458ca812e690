-- What `fisca test` answers and writes over several files: the report on each below its path, and one count of all.
use Rattle.std.specs.Prelude.{◌≡◌, ◌⊎◌, ◌==◌, ℕ, Bool, false, List, [], ◌∷◌, Option, Result, Ok, Err, MatchResult}
use Rattle.std.specs.Io.KnownBytes.{Appends, Keeps}
use Rattle.fisca_folder.specs.Layers.{Told}
use Rattle.fisca_params.specs.Source.{Source}
use Rattle.fisca_rule_files.specs.Ending.{TaskOutcome, IsTold}
use Rattle.fisca_rule_files.specs.Refusal.{of_file, paths_of}
use Rattle.fisca_rule_files.specs.RuleFiles.{IsAccepted, RefusesFiles}
use Rattle.fisca_rule_files.specs.declared.refusal.Refusal.{Refusal}
use Rattle.fisca_rule_files.specs.declared.refusal.Refusal.TheVariants.{Write, Memory}
use Rattle.fisca_rules.specs.Views.{rule_set}
use Rattle.fisca_rules.specs.declared.rule_set.RuleSet.{RuleSet}
use Rattle.fisca_run.specs.Counted.{added, counts_line, no_tests, path_line}
use Rattle.fisca_test_file.specs.Tests.{Test}
use Rattle.fisca_test_file.specs.declared.all.Verdict.{Verdict}
use Rattle.fisca_writer.specs.Run.{AppendsPart}
use Rattle.fisca_commands.specs.Ending.{IsJudged}
use Rattle.fisca_commands.specs.Test.{IsTested, RefusesTests, SaysTests}

-- what is answered for a text under a rule set: it is refused and nothing is written, or its tests of the name are worked out in order
abbrev pub IsTextTested : RuleSet → List ℕ → Option (List ℕ) → Option (List ℕ) → Option (List ℕ) → Result Verdict Refusal → Type 0
IsTextTested rules text name old new answer =
    ((refusal : Refusal) × (answer ≡ Err refusal) × RefusesTests rules text name refusal × Keeps old new)
    ⊎ ((ts : List Test) × SaysTests rules text name ts × IsTested (record { rules = rules; tests = ts }) old new answer)

-- the sink failed in this line, or memory was refused before it
abbrev pub IsLineRefused : List ℕ → Option (List ℕ) → Option (List ℕ) → Refusal → Type 0
IsLineRefused line old new refusal = ((refusal ≡ Write) × AppendsPart line old new) ⊎ ((refusal ≡ Memory) × Keeps old new)

-- a file's path is written, and then its text is tested
abbrev pub IsFileTested : RuleSet → Option (List ℕ) → Source → Option (List ℕ) → Option (List ℕ) → Result Verdict Refusal → Type 0
IsFileTested rules name file old new answer =
    ((refusal : Refusal) × (answer ≡ Err refusal) × IsLineRefused (path_line file.path) old new refusal)
    ⊎ ((between : Option (List ℕ)) × Appends old between (path_line file.path) × IsTextTested rules file.text name between new answer)

-- a file that is refused is told with its path, and nothing more is written
abbrev pub IsRefusedAt : List ℕ → List Told → Option (List ℕ) → Option (List ℕ) → Result Verdict TaskOutcome → Refusal → Type 0
IsRefusedAt path told old new answer refusal = (outcome : TaskOutcome) × (answer ≡ Err outcome) × IsTold (paths_of path told) refusal outcome × Keeps old new

-- files are tested one after another, up to the first that is refused; the counts of all are answered, with those of the files before
abbrev pub AreFilesTested : RuleSet → List Told → Option (List ℕ) → List Source → Verdict → Option (List ℕ) → Option (List ℕ) → Result Verdict TaskOutcome → Type 0
AreFilesTested rules told name [] total old new answer = (answer ≡ Ok total) × Keeps old new
AreFilesTested rules told name (file ∷ files) total old new answer =
    (between : Option (List ℕ)) × (one : Result Verdict Refusal) × IsFileTested rules name file old between one
    × MatchResult one (λ verdict. AreFilesTested rules told name files (added total verdict) between new answer) (IsRefusedAt file.path told between new answer)

-- the line of the counts is written
abbrev pub IsTotalTold : Verdict → Option (List ℕ) → Option (List ℕ) → Result Verdict Refusal → Type 0
IsTotalTold total old new (Ok verdict) = (verdict ≡ total) × Appends old new (counts_line total)
IsTotalTold total old new (Err refusal) = IsLineRefused (counts_line total) old new refusal

-- behind all files their counts are written and judged; a refusal is told already
abbrev pub AreEnded : Result Verdict TaskOutcome → Option (List ℕ) → Option (List ℕ) → TaskOutcome → Type 0
AreEnded (Ok total) old new outcome = (answer : Result Verdict Refusal) × IsTotalTold total old new answer × IsJudged (of_file []) answer outcome
AreEnded (Err refused) old new outcome = (outcome ≡ refused) × Keeps old new

-- how `test` ends over several files
abbrev pub IsTestsEnding : List Source → List Told → List Source → Option (List ℕ) → Option (List ℕ) → Option (List ℕ) → TaskOutcome → Type 0
IsTestsEnding files told tests name old new outcome =
    ((refusal : Refusal) × RefusesFiles files refusal × IsTold (paths_of [] told) refusal outcome × Keeps old new)
    ⊎ ((rules : RuleSet) × IsAccepted files (rule_set rules) × (between : Option (List ℕ)) × (answer : Result Verdict TaskOutcome)
    × AreFilesTested rules told name tests no_tests old between answer × AreEnded answer between new outcome)

-- the sink failed
abbrev pub is_failed : Result Verdict TaskOutcome → Bool
is_failed (Ok total) = false
is_failed (Err outcome) = outcome.status == 5
