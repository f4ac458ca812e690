-- What `fisca size` answers and writes.
use Rattle.std.specs.Prelude.{◌≡◌, ◌⊎◌, ℕ, List, Option, Result, Ok, Err}
use Rattle.std.specs.Io.KnownBytes.{Appends, Keeps}
use Rattle.fisca_writer.specs.Run.{AppendsPart}
use Rattle.fisca_params.specs.Source.{Source}
use Rattle.fisca_rule_files.specs.declared.refusal.Refusal.{Refusal}
use Rattle.fisca_rule_files.specs.declared.refusal.Refusal.TheVariants.{Write}
use Rattle.fisca_rules.specs.declared.rule_set.RuleSet.{RuleSet}
use Rattle.fisca_run.specs.Counted.{size_line}
use Rattle.fisca_run_file.specs.RunFiles.{RunFile}
use Rattle.fisca_rule_files.specs.RuleFiles.{IsAccepted}
use Rattle.fisca_rules.specs.Views.{rule_set}
use Rattle.fisca_grid_run.specs.Run.{RefusesRunning, SaysRun}
use Rattle.fisca_grid_run.specs.Runs.{positions}

-- the text says a run file with so many positions under the rule set
abbrev pub IsSizeIn : RuleSet → List ℕ → ℕ → Type 0
IsSizeIn rules text size = (f : RunFile) × SaysRun rules text f × (size ≡ positions f)

-- the line is written, or the sink failed in it
abbrev pub IsSizeTold : RunFile → Option (List ℕ) → Option (List ℕ) → Result Unit Refusal → Type 0
IsSizeTold f old new (Ok done) = Appends old new (size_line (positions f))
IsSizeTold f old new (Err refusal) = (refusal ≡ Write) × AppendsPart (size_line (positions f)) old new

-- what `size` answers for these files and this text, and what a sink that held `old` then holds: they are refused as those of a run and nothing is
-- written, or the number of the positions is written
abbrev pub IsSize : List Source → List ℕ → Option (List ℕ) → Option (List ℕ) → Result Unit Refusal → Type 0
IsSize files text old new answer =
    ((refusal : Refusal) × (answer ≡ Err refusal) × RefusesRunning files text refusal × Keeps old new)
    ⊎ ((rules : RuleSet) × (f : RunFile) × IsAccepted files (rule_set rules) × SaysRun rules text f × IsSizeTold f old new answer)
