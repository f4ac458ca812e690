-- The steps of code behind `ManyTests`.
use Rattle.std.specs.Prelude.{◌≡◌, ℕ, Ok}
use Rattle.fisca_rules.specs.declared.rule_set.RuleSet.{RuleSet}
use Rattle.fisca_simulation.specs.Told.{IsReady}
use Rattle.fisca_test_file.specs.Tests.{Test}
use Rattle.fisca_test_file.specs.Steps.Tests.{test_of}
use Rattle.fisca_yaml.specs.Node.{Node}
use Rattle.fisca_commands.specs.Test.{simulation_in}

-- what an evaluator needs is known of each test that is read under a rule set
abbrev pub AreTestsReady : RuleSet → Type 0
AreTestsReady rules = (line : ℕ) (n : Node) (t : Test) → test_of rules.tables line n ≡ Ok t → IsReady (simulation_in rules t.situation)
