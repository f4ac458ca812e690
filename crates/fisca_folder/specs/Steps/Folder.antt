-- The steps of code behind `Folder`:
-- Which files of a folder are the rule set's, in which order, how deep and how many, and what is refused.
use Rattle.std.specs.Prelude.{ℕ, List, Bool, not, Option, unwrap_or}
use Rattle.fisca_folder.specs.Steps.RulePaths.{is_rule_path}

-- whether what stands at this path is taken for a folder. Where the machine cannot tell it is, so that nothing is passed over
-- that may hold files of the rule set, but for what is named as a file of the rule set.
abbrev pub counts_as_folder : List ℕ → Option Bool → Bool
counts_as_folder path is_folder = unwrap_or is_folder (not (is_rule_path path))
