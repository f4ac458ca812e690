-- The tree of the nodes of parameter files.
use Rattle.std.specs.Prelude.{ℕ, Bool, false, ◌==◌, ◌&&◌, List, slice_get, Option, Some, None, option_map}
use Rattle.std.specs.List.{position_from}
use Rattle.std.specs.Str.{bytes_eq}
use Rattle.fisca_params.specs.declared.content.Content.{Content}

-- a node: the place of the node above it, its name there, and what it is
pub record TreeNode : Type 0 where
  pub parent : Option ℕ
  pub name : List ℕ
  pub content : Content

abbrev pub is_at : Option ℕ → ℕ → Bool
is_at None place = false
is_at (Some parent) place = parent == place

abbrev pub is_child : ℕ → List ℕ → TreeNode → Bool
is_child parent name n = is_at n.parent parent && bytes_eq n.name name

-- the place of the node of this name below a node
abbrev pub child_of : List TreeNode → ℕ → List ℕ → Option ℕ
child_of t parent name = position_from (is_child parent name) 0 t

abbrev pub content_at : List TreeNode → ℕ → Option Content
content_at t place = option_map (λ n. n.content) (slice_get t place)

abbrev pub child_node : ℕ → List ℕ → Content → TreeNode
child_node parent name c = record { parent = Some parent; name = name; content = c }

pub record Entered : Type 0 where
  pub tree : List TreeNode
  pub place : ℕ

abbrev pub entered : List TreeNode → ℕ → Entered
entered t place = record { tree = t; place = place }
