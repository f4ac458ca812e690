-- What a refusal of the file of `calc`, or of a column, tells.
use Rattle.std.proofs.Common.{◌≡◌, false, inl, inr, ℕ, List, ap}
use Rattle.fisca_rules.specs.declared.rule_set.RuleSet.{RuleSet}
use Rattle.fisca_commands.specs.Calc.{RefusesText}
use Rattle.fisca_rule_files.specs.Refusal.{is_failed_write}
use Rattle.fisca_rule_files.specs.declared.refusal.Refusal.{Refusal}

-- a text that is refused is no failed write
pub text_unwritten : (rules : RuleSet) (text : List ℕ) (r : Refusal) → RefusesText rules text r → is_failed_write r ≡ false
text_unwritten rules text r (inl (inl e)) = ap is_failed_write e
text_unwritten rules text r (inl (inr is)) = ap is_failed_write is.1
text_unwritten rules text r (inr is) = ap is_failed_write is.2
