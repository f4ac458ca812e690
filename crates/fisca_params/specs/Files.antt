-- The tree of a list of files.
use Rattle.std.specs.Prelude.{ℕ, List, [], ◌∷◌, Option, Some, None, Result, Ok, Err}
use Rattle.fisca_params.specs.Causes.{Cause, no_yaml_tree, Refused}
use Rattle.fisca_params.specs.Paths.{names_of}
use Rattle.fisca_yaml.specs.Grouping.{document}
use Rattle.fisca_yaml.specs.Node.{Node}
use Rattle.fisca_params.specs.declared.content.Content.TheVariants as content
use Rattle.fisca_params.specs.Source.{Source}
use Rattle.fisca_params.specs.Tree.{TreeNode}
use Rattle.fisca_params.specs.Steps.Tree.{put_below}

-- a file, with its place among those handed in
abbrev pub Placed : Type 0
Placed = ℕ × Source

abbrev pub with_tree : List TreeNode → List (List ℕ) → Option Node → Result (List TreeNode) Cause
with_tree t names None = Err no_yaml_tree
with_tree t names (Some n) = put_below t 0 names n

abbrev pub with_names : List TreeNode → List ℕ → Option (List (List ℕ)) → Result (List TreeNode) Cause
with_names t text None = Ok t
with_names t text (Some names) = with_tree t names (document text)

-- the tree with the nodes of one more file, where it is a parameter file
abbrev pub with_file : List TreeNode → Source → Result (List TreeNode) Cause
with_file t f = with_names t f.text (names_of f.path)

abbrev pub after_file : ℕ → Result (List TreeNode) Cause → (List TreeNode → Result (List TreeNode) Refused) → Result (List TreeNode) Refused
after_file place (Ok t) next = next t
after_file place (Err cause) next = Err (record { file = place; cause = cause })

-- file after file, up to the first that is refused
abbrev pub with_files : List TreeNode → List Placed → Result (List TreeNode) Refused
with_files t [] = Ok t
with_files t (f ∷ fs) = after_file f.0 (with_file t f.1) (λ u. with_files u fs)

-- the folder `parameters` alone
abbrev pub root_alone : List TreeNode
root_alone = record { parent = None; name = []; content = content.Folder } ∷ []
