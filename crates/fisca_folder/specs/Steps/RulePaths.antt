-- Which files belong to a rule set, by their paths.
use Rattle.std.specs.Prelude.{is_some, ℕ, Bool, ◌||◌, List, codes, option_and_then}
use Rattle.std.specs.Str.{bytes_eq}
use Rattle.fisca_params.specs.Paths.{names_of, after_start}
use Rattle.fisca_params.specs.Steps.Paths.{without_ending}

-- the path of a module
abbrev pub is_module : List ℕ → Bool
is_module path = bytes_eq path (codes "entities.py") || is_some (option_and_then (without_ending (codes ".py")) (after_start (codes "variables/") path))

-- the path of a file that belongs to a rule set; others are ignored
abbrev pub is_rule_path : List ℕ → Bool
is_rule_path path = is_some (names_of path) || is_module path
