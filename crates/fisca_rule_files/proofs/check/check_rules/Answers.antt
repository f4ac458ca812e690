use Rattle.std.proofs.Common.{inr}
use Rattle.fisca_rules.specs.Views.{rule_set}
use Rattle.fisca_rule_files.proofs.check.check_rules.Goals as goal

pub returns-clause-answer : goal.returns-clause-answer
returns-clause-answer g c = inr (rule_set c.in_ok-rules.rules, c.in_ok-rules.ensures.ok, c.write_counts.ensures.answer)
