-- What a refusal that names a parameter file or a module tells.
use Rattle.std.proofs.Common.{◌≡◌, ◌≤◌, inl, inr, ℕ, List, Some, Ok, Err, slice_get, string_bytes, refl, sym, ◌∙◌, subst}
use Rattle.fisca_rules.specs.declared.build_fault.BuildFault.{BuildFault}
use Rattle.fisca_num.specs.Results.{and_then}
use Rattle.fisca_params.specs.Source.{Source}
use Rattle.fisca_params.specs.Tree.{TreeNode}
use Rattle.fisca_scales.specs.declared.fault.ParamFault.{ParamFault}
use Rattle.fisca_scales.specs.declared.fault.ParamFault.TheVariants as params
use Rattle.fisca_rules.specs.Steps.Rules.{rules_of}
use Rattle.fisca_ast.specs.Modules.{Statement}
use Rattle.fisca_parser.specs.Reading.{module_of}
use Rattle.fisca_ast.specs.declared.fault.FormulaFault.{FormulaFault}
use Rattle.fisca_rule_files.specs.Modules.{IsFaultOf, IsRefusalOf, declared_by, declared_in, path_or, rules_in, told_by, told_with}
use Rattle.fisca_rule_files.specs.RuleFiles.{IsToldAt, IsToldOf, RefusesFiles, StandsAt, count_of_files, path_of, place_of}
use Rattle.fisca_rule_files.specs.declared.refusal.Refusal.{Refusal}
use Rattle.fisca_rule_files.specs.declared.refusal.Refusal.TheVariants.{Memory}

-- a module that has this fault
pub file_told : (f : Source) (fault : FormulaFault) (r : Refusal) → module_of f.text ≡ Err fault → IsFaultOf (f.path, fault) r → IsRefusalOf (declared_in f) r
file_told f fault r e is = subst (λ o. IsRefusalOf (told_with f.path o) r) (sym e) is

-- modules that can be read, and have this fault together
pub built_told : (tree : List TreeNode) (fs : List Source) (ms : List (List Statement)) (fault : BuildFault) (r : Refusal) → declared_by fs ≡ Ok ms → rules_of tree ms ≡ Err fault
    → IsFaultOf (path_or (slice_get fs fault.module), record { line = fault.line; kind = fault.kind }) r → IsRefusalOf (rules_in tree fs) r
built_told tree fs ms fault r read e is =
    subst (λ o. IsRefusalOf (and_then o (λ ms. told_by fs (rules_of tree ms))) r) (sym read) (subst (λ o. IsRefusalOf (told_by fs o) r) (sym e) is)

-- a parameter file, by its place among the files
pub stands : (files : List Source) (fault : ParamFault) (file line : ℕ) (path : List ℕ) (r : Refusal) → place_of fault ≡ Some (file, line) → path_of (slice_get files file) ≡ path
    → IsToldAt path line fault r → IsToldOf files fault r
stands files fault file line path r at is (inl e) = inl e
stands files fault file line path r at is (inr shown) =
    inr (shown.0, line, shown.1, subst (λ p. StandsAt files p (string_bytes shown.0) line) (sym at) (shown.2 ∙ sym is, refl))

-- memory that was refused before the files were read
pub without_memory : (files : List Source) (r : Refusal) → count_of_files files ≤ 1000 → r ≡ Memory → RefusesFiles files r
without_memory files r few e = inr (inl (few, (params.Memory, tt, inl e)))
