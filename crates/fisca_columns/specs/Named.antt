-- The names of columns: their texts, as a file writes them.
use Rattle.std.specs.Prelude.{ℕ, List, [], ◌∷◌, ◌++◌, Option, Some, None, codes}
use Rattle.fisca_yaml.specs.Node.{Node, null, scalar, list, map, Items, no_items, item}
use Rattle.fisca_yaml.specs.Steps.Find.{get}

-- the text of a scalar
abbrev pub tree_name : Node → List (List ℕ)
tree_name null = []
tree_name (scalar t q line) = t ∷ []
tree_name (list is) = []
tree_name (map es) = []

abbrev pub item_names : Items → List (List ℕ)
item_names no_items = []
item_names (item line n is) = tree_name n ++ item_names is

-- one scalar, or a list of them
abbrev pub names_at : Option Node → List (List ℕ)
names_at None = []
names_at (Some null) = []
names_at (Some (scalar t q line)) = t ∷ []
names_at (Some (list is)) = item_names is
names_at (Some (map es)) = []

abbrev pub column_names : Node → List (List ℕ)
column_names n = names_at (get (codes "columns") n)
