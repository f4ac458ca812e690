-- The rule set that files make together, or why they are refused.
use Rattle.std.specs.Prelude.{◌≡◌, ◌⊎◌, ℕ, ◌<◌, ◌≤◌, String, List, [], count_by, slice_get, string_bytes, Option, Some, None, Ok}
use Rattle.std.specs.declared.alloc.Global.{Global}
use Rattle.fisca_folder.specs.Steps.RulePaths.{is_rule_path}
use Rattle.fisca_params.specs.Answers.{Refuses}
use Rattle.fisca_params.specs.Steps.Files.{tree_of}
use Rattle.fisca_params.specs.Source.{Source}
use Rattle.fisca_params.specs.Tree.{TreeNode}
use Rattle.fisca_scales.specs.declared.fault.ParamFault.{ParamFault}
use Rattle.fisca_scales.specs.declared.fault.ParamFault.TheVariants as params
use Rattle.fisca_rules.specs.Rules.{Rules}
use Rattle.fisca_rule_files.specs.Modules.{rules_by, IsRefusalOf}
use Rattle.fisca_rule_files.specs.declared.refusal.Refusal.{Refusal}
use Rattle.fisca_rule_files.specs.declared.refusal.Refusal.TheVariants.{Params, Memory, TooManyFiles}

-- how many files are not ignored
abbrev pub count_of_files : List Source → ℕ
count_of_files = count_by (λ file. is_rule_path file.path)

-- the files are not too many, and the parameter files make this tree
abbrev pub HasTree : List Source → List TreeNode → Type 0
HasTree files tree = (count_of_files files ≤ 1000) × (tree_of files ≡ Ok tree)

-- and the modules make this rule set beside them
abbrev pub IsAccepted : List Source → Rules → Type 0
IsAccepted files rules = (tree : List TreeNode) × HasTree files tree × (rules_by tree files ≡ Ok rules)

-- the file of a fault, by its place among the files, and the line there
abbrev pub place_of : ParamFault → Option (ℕ × ℕ)
place_of (params.Yaml file fault) = Some (file, fault.line)
place_of (params.BadParameter file line) = Some (file, line)
place_of (params.DuplicateName file line) = Some (file, line)
place_of _ = None

abbrev pub path_of : Option Source → List ℕ
path_of None = []
path_of (Some file) = file.path

-- this path and this line are where a fault of these files stands
abbrev pub StandsAt : List Source → Option (ℕ × ℕ) → List ℕ → ℕ → Type 0
StandsAt files None path line = ⊥
StandsAt files (Some place) path line = (path ≡ path_of (slice_get files place.0)) × (line ≡ place.1)

-- the refusal tells this fault of the parameter file at this path and this line, or that memory was refused
abbrev pub IsToldAt : List ℕ → ℕ → ParamFault → Refusal → Type 0
IsToldAt path line fault refusal = (refusal ≡ Memory) ⊎ ((told : String Global) × (refusal ≡ Params told line fault) × (string_bytes told ≡ path))

-- the same of where it stands among these files
abbrev pub IsToldOf : List Source → ParamFault → Refusal → Type 0
IsToldOf files fault refusal =
    (refusal ≡ Memory) ⊎ ((path : String Global) × (line : ℕ) × (refusal ≡ Params path line fault) × StandsAt files (place_of fault) (string_bytes path) line)

-- the first reason for which files make no rule set is told: they are too many, else their parameter files make no tree, else their modules no
-- rule set beside it; or memory was refused on the way there
abbrev pub RefusesFiles : List Source → Refusal → Type 0
RefusesFiles files refusal =
    ((refusal ≡ TooManyFiles) × (1000 < count_of_files files))
    ⊎ (((count_of_files files ≤ 1000) × ((fault : ParamFault) × Refuses fault (tree_of files) × IsToldOf files fault refusal))
    ⊎ ((tree : List TreeNode) × HasTree files tree × IsRefusalOf (rules_by tree files) refusal))
