-- The steps of code behind `Lookup`:
-- What the nodes of a parameter tree tell.
use Rattle.std.specs.Prelude.{Bool, true, false}
use Rattle.fisca_params.specs.declared.content.Content.{Content}
use Rattle.fisca_params.specs.declared.content.Content.TheVariants as content
use Rattle.fisca_params.specs.Tree.{TreeNode}

-- a dated parameter or a scale
abbrev pub counts : Content → Bool
counts content.Folder = false
counts content.Branch = false
counts _ = true

abbrev pub is_counted : TreeNode → Bool
is_counted n = counts n.content
