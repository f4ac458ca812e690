-- What is known of the rule set that files make: modules make it beside a tree of parameters.
use Rattle.std.proofs.Common.{◌≡◌, List, Result, Ok, Err, ap}
use Rattle.fisca_rules.specs.declared.build_fault.BuildFault.{BuildFault}
use Rattle.fisca_params.specs.Steps.Files.{in_path_order}
use Rattle.fisca_num.specs.Results.{and_then}
use Rattle.fisca_params.specs.Source.{Source}
use Rattle.fisca_params.specs.Tree.{TreeNode}
use Rattle.fisca_rules.specs.Rules.{Rules}
use Rattle.fisca_rules.specs.Steps.Rules.{rules_of}
use Rattle.fisca_ast.specs.Modules.{Statement}
use Rattle.fisca_rule_files.specs.Modules.{FileFault, declared_by, told_by}
use Rattle.fisca_rule_files.specs.Steps.Modules.{modules_in}
use Rattle.fisca_rule_files.specs.RuleFiles.{IsAccepted}

told_built : (fs : List Source) (o : Result Rules BuildFault) (rules : Rules) → told_by fs o ≡ Ok rules → o ≡ Ok rules
told_built fs (Ok made) rules e = let same : made ≡ rules = cc in ap Ok same
told_built fs (Err fault) rules e = absurd (cc)

declared_built : (tree : List TreeNode) (fs : List Source) (o : Result (List (List Statement)) FileFault) (rules : Rules) → and_then o (λ ms. told_by fs (rules_of tree ms)) ≡ Ok rules
    → (ms : List (List Statement)) × (rules_of tree ms ≡ Ok rules)
declared_built tree fs (Ok ms) rules e = (ms, told_built fs (rules_of tree ms) rules e)
declared_built tree fs (Err fault) rules e = absurd (cc)

-- modules make the rule set of files beside a tree of parameters
pub built : (files : List Source) (rules : Rules) → IsAccepted files rules → (tree : List TreeNode) × ((ms : List (List Statement)) × (rules_of tree ms ≡ Ok rules))
built files rules is = let fs = modules_in (in_path_order files) in (is.0, declared_built is.0 fs (declared_by fs) rules is.2)
