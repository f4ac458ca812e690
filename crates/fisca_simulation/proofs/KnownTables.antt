-- The tables of a rule set are what its formulas may name.
use Rattle.std.proofs.Common.{◌≡◌, refl}
use Rattle.fisca_rules.specs.Rules.{known_by}
use Rattle.fisca_rules.specs.Views.{rule_set}
use Rattle.fisca_rules.specs.declared.rule_set.RuleSet.{RuleSet}
use Rattle.fisca_symbols.specs.Known.{tables}

pub tables_known : (r : RuleSet) → tables r.tables ≡ known_by (rule_set r)
tables_known r = refl
