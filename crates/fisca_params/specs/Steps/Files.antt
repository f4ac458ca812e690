-- The steps of code behind `Files`:
-- The tree of a list of files.
use Rattle.std.specs.Prelude.{ℕ, Bool, List, [], ◌∷◌, Result, if◌then◌else◌}
use Rattle.std.specs.List.{enumerate_from}
use Rattle.std.specs.Ordering.{nat_cmp, is_lt}
use Rattle.std.specs.Cmp.Lexicographic.{slice_cmp}
use Rattle.fisca_params.specs.Causes.{Refused}
use Rattle.fisca_params.specs.Source.{Source}
use Rattle.fisca_params.specs.Tree.{TreeNode}
use Rattle.fisca_params.specs.Files.{Placed, with_files, root_alone}

abbrev pub is_path_before : List ℕ → List ℕ → Bool
is_path_before a b = is_lt (slice_cmp nat_cmp a b)

-- behind those whose path is not after its own
abbrev pub put_by_path : Placed → List Placed → List Placed
put_by_path f [] = f ∷ []
put_by_path f (g ∷ gs) = if is_path_before f.1.path g.1.path then f ∷ g ∷ gs else g ∷ put_by_path f gs

abbrev pub in_path_order_with : List Placed → List Placed → List Placed
in_path_order_with sorted [] = sorted
in_path_order_with sorted (f ∷ fs) = in_path_order_with (put_by_path f sorted) fs

-- in order of the bytes of their paths, those of one path as they stand
abbrev pub in_path_order : List Source → List Placed
in_path_order files = in_path_order_with [] (enumerate_from 0 files)

-- The tree of the parameter files among these files, or which of them is refused first, in order of their paths, and why.
abbrev pub tree_of : List Source → Result (List TreeNode) Refused
tree_of files = with_files root_alone (in_path_order files)
