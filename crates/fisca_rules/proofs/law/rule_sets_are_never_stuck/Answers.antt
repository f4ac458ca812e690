use Rattle.fisca_rules.proofs.Safe.{rules_safe}
use Rattle.fisca_rules.proofs.law.rule_sets_are_never_stuck.Goals as goal

pub returns : goal.returns
returns c = rules_safe c.never_stuck.ensures.written
