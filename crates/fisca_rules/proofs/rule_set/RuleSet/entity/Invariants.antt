use Rattle.std.proofs.Common.{◌≡◌, drop}
use Rattle.std.specs.List.{position_from}
use Rattle.fisca_rules.specs.Names.{entity_named, is_called}
use Rattle.fisca_rules.specs.Views.{rule_set}
use Rattle.fisca_rules.proofs.rule_set.RuleSet.entity.Given as goal

-- no entity before this place
abbrev pub invariant-loop-place : goal.invariant-loop-place
invariant-loop-place l = position_from (is_called l.name) l.place (drop l.place l.self.tables.entities) ≡ entity_named (rule_set l.self) l.name
