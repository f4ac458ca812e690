-- What files that were read have under a safe rule set.
use Rattle.std.proofs.Common.{◌≡◌}
use Rattle.std.specs.Prelude.{Result, Ok, Err, IfOk}
use Rattle.fisca_columns.specs.Calc.{Calc, calc_of}
use Rattle.fisca_columns.specs.Outcomes.{Tells}
use Rattle.fisca_columns.specs.Views.{calc as calc_view}
use Rattle.fisca_columns.specs.declared.calc_file.CalcFile.{CalcFile}
use Rattle.fisca_columns.specs.declared.fault.RunFileFault.{RunFileFault}
use Rattle.fisca_grid_run.specs.Kept.{IsRunFile}
use Rattle.fisca_rules.specs.Views.{rule_set}
use Rattle.fisca_rules.specs.declared.rule_set.RuleSet.{RuleSet}
use Rattle.fisca_run_file.specs.RunFiles.{run_file_of}
use Rattle.fisca_run_file.specs.Views.{run_file as run_file_view}
use Rattle.fisca_run_file.specs.declared.file.RunFile.{RunFile}
use Rattle.fisca_simulation.specs.Sound.{InputsFit, IsSafeRules}
use Rattle.fisca_yaml.specs.Node.{Node}

-- a run file can be run
pub run_accepted : (rules : RuleSet) (n : Node) (r : Result RunFile RunFileFault) → Tells run_file_view (run_file_of rules.tables n) r
    → IfOk r (λ f. IsSafeRules (rule_set rules) → IsRunFile rules (run_file_view f))
run_accepted rules n (Ok f) told = λ safe. record { tree = n; asked = record { safe = safe; read = told } }
run_accepted rules n (Err f) told = tt

-- the inputs of a file of `calc` are of their types, by that law
pub calc_fits : (law : (rules : RuleSet) → IsSafeRules (rule_set rules) → (n : Node) (c : Calc) → calc_of rules.tables n ≡ Ok c → InputsFit (rule_set rules) c.situation)
    (rules : RuleSet) (n : Node) (r : Result CalcFile RunFileFault) → Tells calc_view (calc_of rules.tables n) r
    → IfOk r (λ f. IsSafeRules (rule_set rules) → InputsFit (rule_set rules) (calc_view f).situation)
calc_fits law rules n (Ok f) told = λ safe. law rules safe n (calc_view f) told
calc_fits law rules n (Err f) told = tt
