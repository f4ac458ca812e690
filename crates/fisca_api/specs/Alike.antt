-- Rule sets that say the same, however they stand in memory.
use Rattle.std.specs.Prelude.{◌≡◌}
use Rattle.fisca_rules.specs.Views.{rule_set}
use Rattle.fisca_rules.specs.declared.rule_set.RuleSet.{RuleSet}

-- the definition's rule set is the same
abbrev pub AreAlike : RuleSet → RuleSet → Type 0
AreAlike a b = rule_set a ≡ rule_set b
