-- Which files are parameter files, and the names in their paths.
use Rattle.std.specs.Prelude.{ℕ, ◌==◌, nat_eq, List, length, drop, Option, Some, None, option_map, option_and_then, if◌then◌else◌, codes}
use Rattle.std.specs.List.{slice_split, starts_with}
use Rattle.fisca_yaml_scalars.specs.Characters.{slash}
use Rattle.fisca_params.specs.Steps.Paths.{without_yaml}

abbrev pub after_start : List ℕ → List ℕ → Option (List ℕ)
after_start start text = if starts_with nat_eq text start then Some (drop (length start) text) else None

-- the path of a parameter file below the folder `parameters`, without its ending; none of any other file
abbrev pub inner_path : List ℕ → Option (List ℕ)
inner_path path = option_and_then without_yaml (after_start (codes "parameters/") path)

-- the names in a path, which stand between slashes
abbrev pub names_in : List ℕ → List (List ℕ)
names_in path = slice_split (λ c. c == slash) path

-- the folders below `parameters` that a parameter file stands in, and its own name
abbrev pub names_of : List ℕ → Option (List (List ℕ))
names_of path = option_map names_in (inner_path path)
