use Rattle.std.proofs.Common.{◌≡◌, map}
use Rattle.fisca_params.specs.Files.{root_alone, with_files}
use Rattle.fisca_params.proofs.Ordered.{placed_of}
use Rattle.fisca_params.proofs.tree.ParamTree.read_in_order.Given as goal

-- what is left, put into the tree so far, gives the whole
abbrev pub invariant-loop-key : goal.invariant-loop-key
invariant-loop-key l =
    (with_files root_alone (map placed_of l.sorted.entries) ≡ with_files l.nodes (map placed_of l.key-iterator))
