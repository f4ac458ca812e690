-- The rule set that files make: what their modules declare beside parameters, or the first fault.
use Rattle.std.specs.Prelude.{◌≡◌, ◌⊎◌, ℕ, String, List, slice_get, codes, string_bytes, Option, Some, None, Result, Ok, Err}
use Rattle.std.specs.declared.alloc.Global.{Global}
use Rattle.fisca_rules.specs.declared.build_fault.BuildFault.{BuildFault}
use Rattle.fisca_params.specs.Steps.Files.{in_path_order}
use Rattle.fisca_num.specs.Results.{and_then}
use Rattle.fisca_params.specs.Source.{Source}
use Rattle.fisca_params.specs.Tree.{TreeNode}
use Rattle.fisca_rules.specs.Rules.{Rules, all_of}
use Rattle.fisca_rules.specs.Steps.Rules.{rules_of}
use Rattle.fisca_ast.specs.Modules.{Statement}
use Rattle.fisca_parser.specs.Reading.{module_of}
use Rattle.fisca_ast.specs.declared.fault.FormulaFault.{FormulaFault}
use Rattle.fisca_rule_files.specs.declared.refusal.Refusal.{Refusal}
use Rattle.fisca_rule_files.specs.declared.refusal.Refusal.TheVariants.{Formula, Memory}
use Rattle.fisca_rule_files.specs.Steps.Modules.{modules_in}

-- a fault of a file, which is told with its path
abbrev pub FileFault : Type 0
FileFault = List ℕ × FormulaFault

abbrev pub told_with : {X : Type 0} → List ℕ → Result X FormulaFault → Result X FileFault
told_with path (Ok x) = Ok x
told_with path (Err fault) = Err (path, fault)

-- what a module declares, or its fault
abbrev pub declared_in : Source → Result (List Statement) FileFault
declared_in f = told_with f.path (module_of f.text)

-- what each of these declares, or the fault of the first that cannot be read
abbrev pub declared_by : List Source → Result (List (List Statement)) FileFault
declared_by = all_of declared_in

-- the module at a place; where there is none, the file that is to declare the persons
abbrev pub path_or : Option Source → List ℕ
path_or None = codes "entities.py"
path_or (Some f) = f.path

abbrev pub told_by : {X : Type 0} → List Source → Result X BuildFault → Result X FileFault
told_by fs (Ok x) = Ok x
told_by fs (Err fault) = Err (path_or (slice_get fs fault.module), record { line = fault.line; kind = fault.kind })

-- the rule set of these modules beside parameters
abbrev pub rules_in : List TreeNode → List Source → Result Rules FileFault
rules_in tree fs = and_then (declared_by fs) (λ ms. told_by fs (rules_of tree ms))

-- the same of the modules among all files, in order of their paths
abbrev pub rules_by : List TreeNode → List Source → Result Rules FileFault
rules_by tree files = rules_in tree (modules_in (in_path_order files))

-- a refusal tells this fault, or that memory was refused
abbrev pub IsFaultOf : FileFault → Refusal → Type 0
IsFaultOf fault refusal = (refusal ≡ Memory) ⊎ ((path : String Global) × (refusal ≡ Formula path fault.1.line fault.1.kind) × (string_bytes path ≡ fault.0))

-- this fault is told; where there is none, only want of memory
abbrev pub IsRefusalOf : {X : Type 0} → Result X FileFault → Refusal → Type 0
IsRefusalOf (Ok x) refusal = refusal ≡ Memory
IsRefusalOf (Err fault) refusal = IsFaultOf fault refusal

-- what this outcome says, seen in this way, or its fault; or else memory ran out
abbrev pub TellsFile : {X Y : Type 0} → (X → Y) → Result Y FileFault → Result X Refusal → Type 0
TellsFile view outcome (Ok x) = outcome ≡ Ok (view x)
TellsFile view outcome (Err refusal) = IsRefusalOf outcome refusal
