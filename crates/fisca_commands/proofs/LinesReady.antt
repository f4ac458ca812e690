-- What an evaluator needs is known of each file in a line.
use Rattle.std.proofs.Common.{◌≡◌, List, Ok}
use Rattle.fisca_ast.specs.Modules.{Statement}
use Rattle.fisca_columns.specs.Calc.{Calc, calc_of}
use Rattle.fisca_params.specs.Source.{Source}
use Rattle.fisca_params.specs.Tree.{TreeNode}
use Rattle.fisca_rule_files.specs.RuleFiles.{IsAccepted}
use Rattle.fisca_rules.specs.Rules.{Rules}
use Rattle.fisca_rules.specs.Steps.Rules.{rules_of}
use Rattle.fisca_rules.specs.Views.{rule_set}
use Rattle.fisca_rules.specs.declared.rule_set.RuleSet.{RuleSet}
use Rattle.fisca_simulation.specs.Sound.{InputsFit, IsSafeRules}
use Rattle.fisca_yaml.specs.Node.{Node}
use Rattle.fisca_rule_files.proofs.Built.{built}
use Rattle.fisca_commands.specs.Steps.CalcLines.{AreReady}

pub files_ready : (files : List Source) (rules : RuleSet)
    → ((nodes : List TreeNode) (ms : List (List Statement)) (r : Rules) → rules_of nodes ms ≡ Ok r → IsSafeRules r)
    → ((rules : RuleSet) → IsSafeRules (rule_set rules) → (n : Node) (asked : Calc) → calc_of rules.tables n ≡ Ok asked → InputsFit (rule_set rules) asked.situation)
    → IsAccepted files (rule_set rules) → AreReady rules
files_ready files rules safe fit accepted text asked is =
    let made = built files (rule_set rules) accepted in
    let is_safe = safe made.0 made.1.0 (rule_set rules) made.1.1 in
    record { safe = is_safe; fit = fit rules is_safe is.0 asked is.2 }
