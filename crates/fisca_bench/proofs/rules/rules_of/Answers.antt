use Rattle.fisca_bench.proofs.rules.rules_of.Goals as goal

pub returns-in-Ok : goal.returns-in-Ok
returns-in-Ok c = c.rule_sets_are_safe.ensures _ _ _ c.in-Ok.ensures
