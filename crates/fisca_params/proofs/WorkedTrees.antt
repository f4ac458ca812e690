-- The definition of parameter trees, worked out on small files.
use Rattle.std.proofs.Common.{◌≡◌, ℕ, List, [], ◌∷◌, codes, refl}
use Rattle.std.specs.Prelude.{Ok, Err}
use Rattle.fisca_yaml.specs.Flow.{flow_value, series}
use Rattle.fisca_yaml.specs.Grouping.{document, block}
use Rattle.fisca_params.specs.Causes.{no_yaml_tree, bad_parameter, duplicate_name}
use Rattle.fisca_params.specs.Files.{root_alone}
use Rattle.fisca_params.specs.Steps.Files.{tree_of}
use Rattle.fisca_params.specs.Source.{Source}

abbrev file : List ℕ → List ℕ → Source
file path text = record { path = path; text = text }

abbrev scalar_file : Source
scalar_file = file (codes "parameters/b.yaml") (codes "5")

abbrev broken_file : Source
broken_file = file (codes "parameters/a.yaml") (codes "a: b: c")

-- what is no parameter file is skipped
skipped : tree_of (file (codes "README.md") (codes "5") ∷ file (codes "b.yaml") (codes "5") ∷ []) ≡ Ok root_alone
skipped = refl

no_map : tree_of (scalar_file ∷ []) ≡ Err (record { file = 0; cause = bad_parameter 1 })
unfolding document block flow_value series
no_map = refl

-- the first in order of the paths is told, wherever it stands
first_by_path : tree_of (scalar_file ∷ broken_file ∷ []) ≡ Err (record { file = 1; cause = no_yaml_tree })
unfolding document block flow_value series
first_by_path = refl

-- `taxes.yaml` comes before the folder `taxes`, whose file is told
file_beside_folder : tree_of (file (codes "parameters/taxes/rate.yaml") (codes "5") ∷ file (codes "parameters/taxes.yaml") (codes "high: {}") ∷ []) ≡ Err (record { file = 0; cause = duplicate_name 1 })
unfolding document block flow_value series
file_beside_folder = refl

-- of two files of one path the second is told
same_path : tree_of (file (codes "parameters/a.yaml") (codes "b: {}") ∷ file (codes "parameters/a.yaml") (codes "b: {}") ∷ []) ≡ Err (record { file = 1; cause = duplicate_name 1 })
unfolding document block flow_value series
same_path = refl

-- of one file its text comes first, then its name, then its content
text_first : tree_of (file (codes "parameters/b.yaml") (codes "c: {}") ∷ file (codes "parameters/b.yml") (codes "a: b: c") ∷ []) ≡ Err (record { file = 1; cause = no_yaml_tree })
unfolding document block flow_value series
text_first = refl

name_before_content : tree_of (file (codes "parameters/b.yaml") (codes "c: {}") ∷ file (codes "parameters/b.yml") (codes "5") ∷ []) ≡ Err (record { file = 1; cause = duplicate_name 1 })
unfolding document block flow_value series
name_before_content = refl

-- of a map with several faults the first in the order of its keys is told, at its line
first_key : tree_of (file (codes "parameters/a.yaml") (codes "b: {}\nc:\n  d: 5\ne: 6") ∷ []) ≡ Err (record { file = 0; cause = bad_parameter 3 })
unfolding document block flow_value series
first_key = refl

-- of the fields of a bracket the threshold comes first, whatever the order of the keys
first_field : tree_of (file (codes "parameters/a.yaml") (codes "brackets:\n- rate: 1\n  threshold: 2") ∷ []) ≡ Err (record { file = 0; cause = bad_parameter 3 })
unfolding document block flow_value series
first_field = refl

-- a key that names no field comes before the fields
stray_key : tree_of (file (codes "parameters/a.yaml") (codes "brackets:\n- rate: 1\n  average_rate: 2") ∷ []) ≡ Err (record { file = 0; cause = bad_parameter 3 })
unfolding document block flow_value series
stray_key = refl

-- the values of a parameter are not a map: the line is theirs
no_values : tree_of (file (codes "parameters/a.yaml") (codes "description: x\nvalues: 5") ∷ []) ≡ Err (record { file = 0; cause = bad_parameter 2 })
unfolding document block flow_value series
no_values = refl
