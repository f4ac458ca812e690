-- What a refusal of files, or of a run file, tells.
use Rattle.std.proofs.Common.{◌≡◌, false, inl, inr, ℕ, List, Result, Ok, Err, ap}
use Rattle.fisca_params.specs.Source.{Source}
use Rattle.fisca_rules.specs.Rules.{Rules}
use Rattle.fisca_rules.specs.declared.rule_set.RuleSet.{RuleSet}
use Rattle.fisca_grid_run.specs.Run.{RefusesRunText, RefusesRunTree}
use Rattle.fisca_grid_run.specs.Yaml.{IsYamlRefused}
use Rattle.fisca_yaml.specs.Node.{Node}
use Rattle.fisca_rule_files.specs.Modules.{FileFault, IsFaultOf, IsRefusalOf, rules_by}
use Rattle.fisca_rule_files.specs.Refusal.{is_failed_write}
use Rattle.fisca_rule_files.specs.RuleFiles.{IsToldOf, RefusesFiles}
use Rattle.fisca_rule_files.specs.declared.refusal.Refusal.{Refusal}
use Rattle.fisca_scales.specs.declared.fault.ParamFault.{ParamFault}

-- a text that is no YAML is refused, and that is no failed write
pub yaml_unwritten : (text : List ℕ) (r : Refusal) → IsYamlRefused text r → is_failed_write r ≡ false
yaml_unwritten text r (inl e) = ap is_failed_write e
yaml_unwritten text r (inr is) = ap is_failed_write is.1

-- nor is a tree that is no run file
run_unwritten : (rules : RuleSet) (n : Node) (r : Refusal) → RefusesRunTree rules n r → is_failed_write r ≡ false
run_unwritten rules n r (inl e) = ap is_failed_write e
run_unwritten rules n r (inr is) = ap is_failed_write is.1

pub begin_unwritten : (rules : RuleSet) (text : List ℕ) (r : Refusal) → RefusesRunText rules text r → is_failed_write r ≡ false
begin_unwritten rules text r (inl is) = yaml_unwritten text r is
begin_unwritten rules text r (inr is) = run_unwritten rules is.0 r is.2

-- nor are files that are refused
told_unwritten : (files : List Source) (fault : ParamFault) (r : Refusal) → IsToldOf files fault r → is_failed_write r ≡ false
told_unwritten files fault r (inl e) = ap is_failed_write e
told_unwritten files fault r (inr is) = ap is_failed_write is.2

fault_unwritten : (fault : FileFault) (r : Refusal) → IsFaultOf fault r → is_failed_write r ≡ false
fault_unwritten fault r (inl e) = ap is_failed_write e
fault_unwritten fault r (inr is) = ap is_failed_write is.1

modules_unwritten : (made : Result Rules FileFault) (r : Refusal) → IsRefusalOf made r → is_failed_write r ≡ false
modules_unwritten (Ok made) r e = ap is_failed_write e
modules_unwritten (Err fault) r is = fault_unwritten fault r is

pub files_unwritten : (files : List Source) (r : Refusal) → RefusesFiles files r → is_failed_write r ≡ false
files_unwritten files r (inl is) = ap is_failed_write is.0
files_unwritten files r (inr (inl is)) = told_unwritten files is.1.0 r is.1.2
files_unwritten files r (inr (inr is)) = modules_unwritten (rules_by is.0 files) r is.2
