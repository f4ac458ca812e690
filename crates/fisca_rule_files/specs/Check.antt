-- What `fisca check` answers and writes.
use Rattle.std.specs.Prelude.{◌≡◌, ◌⊎◌, ℕ, List, Option, Result, Ok, Err}
use Rattle.std.specs.Io.KnownBytes.{Appends, Keeps}
use Rattle.fisca_writer.specs.Run.{AppendsPart}
use Rattle.fisca_params.specs.Source.{Source}
use Rattle.fisca_rules.specs.Rules.{Rules}
use Rattle.fisca_rule_files.specs.RuleFiles.{IsAccepted, RefusesFiles}
use Rattle.fisca_rule_files.specs.declared.refusal.Refusal.{Refusal}
use Rattle.fisca_rule_files.specs.declared.refusal.Refusal.TheVariants.{Write, Memory}
use Rattle.fisca_rule_files.specs.Steps.Check.{text_of}

-- what the writing of a line answers, and what a sink that held `old` then holds
abbrev pub IsWritten : List ℕ → Option (List ℕ) → Option (List ℕ) → Result Unit Refusal → Type 0
IsWritten text old new (Ok done) = Appends old new text
IsWritten text old new (Err refusal) = ((refusal ≡ Write) × AppendsPart text old new) ⊎ ((refusal ≡ Memory) × Keeps old new)

-- what the check of files answers, and what a sink that held `old` then holds: the files are refused, or their rule set's line is written
abbrev pub IsCheck : List Source → Option (List ℕ) → Option (List ℕ) → Result Unit Refusal → Type 0
IsCheck files old new answer =
    ((refusal : Refusal) × (answer ≡ Err refusal) × RefusesFiles files refusal × Keeps old new)
    ⊎ ((rules : Rules) × IsAccepted files rules × IsWritten (text_of rules) old new answer)
