-- The look-up of children by their names.
use Rattle.std.specs.Prelude.{◌≡◌, ℕ, ◌<◌, ◌≤◌, List, length, slice_index_or, None}
use Rattle.std.specs.BTreeMap.{BTreeMap, get_by_text}
use Rattle.std.specs.Prelude.{String}
use Rattle.std.specs.declared.alloc.Global.{Global}
use Rattle.fisca_params.specs.Tree.{TreeNode, child_of}

-- each node has the places of its children by their names, and no node stands below one that is not there
pub record IsIndexed (nodes : List TreeNode) (children : List (BTreeMap (String Global) ℕ)) : Type 0 where
  pub some : 0 < length nodes
  pub tables : length children ≡ length nodes
  pub found : (place : ℕ) (d : BTreeMap (String Global) ℕ) → place < length nodes → (name : List ℕ) → get_by_text (slice_index_or children place d) name ≡ child_of nodes place name
  pub below : (place : ℕ) → length nodes ≤ place → (name : List ℕ) → child_of nodes place name ≡ None
