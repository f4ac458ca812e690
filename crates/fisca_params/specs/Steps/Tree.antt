-- The steps of code behind `Tree`:
-- The tree of the nodes of parameter files.
use Rattle.std.specs.Prelude.{ℕ, Bool, true, false, ◌||◌, List, [], ◌∷◌, ◌++◌, length, Option, Some, None, option_map, is_some, is_none, ok_or, Result, Ok, Err, if◌then◌else◌, codes}
use Rattle.std.specs.Str.{bytes_eq}
use Rattle.fisca_yaml.specs.Node.{Node, null, scalar, list, map, Entries, no_entries, entry}
use Rattle.fisca_params.specs.declared.content.Content.{Content}
use Rattle.fisca_params.specs.declared.content.Content.TheVariants as content
use Rattle.fisca_yaml.specs.Steps.Find.{get}
use Rattle.fisca_params.specs.Causes.{Cause, bad_parameter, duplicate_name}
use Rattle.fisca_params.specs.Content.{first_line}
use Rattle.fisca_params.specs.Steps.Content.{date_map, parameter_in, scale_of}
use Rattle.fisca_params.specs.FaultLines.{line_at, entry_or_node, values_line, scale_line}
use Rattle.fisca_params.specs.Steps.FaultLines.{line_of}
use Rattle.fisca_num.specs.Results.{and_then}
use Rattle.fisca_params.specs.Tree.{TreeNode, child_of, content_at, child_node, Entered, entered}

-- the tree with one more node
abbrev pub with_child : List TreeNode → ℕ → List ℕ → Content → List TreeNode
with_child t parent name c = t ++ child_node parent name c ∷ []

-- the same with a node that is read, where it can be
abbrev pub with_read : List TreeNode → ℕ → List ℕ → Option Content → ℕ → Result (List TreeNode) Cause
with_read t parent name c line = ok_or (option_map (with_child t parent name) c) (bad_parameter line)

-- keys that describe a node, and are no children of it
abbrev pub is_description : List ℕ → Bool
is_description key =
    bytes_eq key (codes "description") || (bytes_eq key (codes "metadata") || (bytes_eq key (codes "reference")
    || (bytes_eq key (codes "documentation") || bytes_eq key (codes "unit"))))

-- The tree with a parameter where a map has a date map, else with a scale where it has brackets, else with a branch, whose
-- children below puts. Its key stands on the line.
abbrev pub put_map : List TreeNode → ℕ → List ℕ → ℕ → Node → (List TreeNode → Result (List TreeNode) Cause) → Option Node → Option Node → Result (List TreeNode) Cause
put_map t parent name line n below (Some values) brackets =
    with_read t parent name (parameter_in values) (values_line (line_at (codes "values") line n) values)
put_map t parent name line n below None (Some brackets) =
    with_read t parent name (scale_of n brackets) (scale_line (line_at (codes "brackets") line n) brackets)
put_map t parent name line n below None None = below (with_child t parent name content.Branch)

-- no two children of a node have one name
abbrev pub if_free : List TreeNode → ℕ → List ℕ → ℕ → Result (List TreeNode) Cause → Result (List TreeNode) Cause
if_free t parent name line put = if is_some (child_of t parent name) then Err (duplicate_name line) else put

-- The tree with the node of this name that a map of a file is, and the nodes below it. Its name is judged before its content.
abbrev mutual
  pub put_node : List TreeNode → ℕ → List ℕ → ℕ → Node → Result (List TreeNode) Cause
  put_node t parent name line null = if_free t parent name line (Err (bad_parameter line))
  put_node t parent name line (scalar text q l) = if_free t parent name line (Err (bad_parameter l))
  put_node t parent name line (list is) = if_free t parent name line (Err (bad_parameter (line_of line (list is))))
  put_node t parent name line (map es) =
      if_free t parent name line (put_map t parent name line (map es) (λ u. put_children u (length t) es) (date_map (map es)) (get (codes "brackets") (map es)))

  pub put_children : List TreeNode → ℕ → Entries → Result (List TreeNode) Cause
  put_children t place no_entries = Ok t
  put_children t place (entry key line n es) =
      if is_description key then put_children t place es
      else and_then (put_node t place key line n) (λ u. put_children u place es)

-- a file `index` describes its folder, by such keys alone, or is empty
abbrev pub names_description : List ℕ → Node → Bool
names_description key n = is_description key

abbrev pub describes_folder : Node → Bool
describes_folder null = true
describes_folder (scalar text q l) = false
describes_folder (list is) = false
describes_folder (map es) = is_none (first_line names_description es)

abbrev pub is_folder : Option Content → Bool
is_folder (Some content.Folder) = true
is_folder _ = false

abbrev pub enter_child : List TreeNode → ℕ → List ℕ → Option ℕ → Result Entered Cause
enter_child t parent name None = Ok (entered (with_child t parent name content.Folder) (length t))
enter_child t parent name (Some place) =
    if is_folder (content_at t place) then Ok (entered t place) else Err (duplicate_name 1)

-- A folder is a node once, whatever the number of files in it. No file's node has its name.
abbrev pub enter : List TreeNode → ℕ → List ℕ → Result Entered Cause
enter t parent name = enter_child t parent name (child_of t parent name)

abbrev pub put_file : List TreeNode → ℕ → List ℕ → Node → Result (List TreeNode) Cause
put_file t folder name n =
    if bytes_eq name (codes "index") then
    (if describes_folder n then Ok t else Err (bad_parameter (entry_or_node names_description 1 n)))
    else put_node t folder name 1 n

-- a file's node, below the folders that it stands in
abbrev pub put_below : List TreeNode → ℕ → List (List ℕ) → Node → Result (List TreeNode) Cause
put_below t folder [] n = Ok t
put_below t folder (name ∷ []) n = put_file t folder name n
put_below t folder (name ∷ m ∷ ms) n = and_then (enter t folder name) (λ e. put_below e.tree e.place (m ∷ ms) n)
