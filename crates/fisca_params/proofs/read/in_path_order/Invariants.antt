use Rattle.std.proofs.Common.{◌≡◌, drop, map}
use Rattle.std.specs.List.{enumerate_from}
use Rattle.fisca_params.specs.Steps.Files.{in_path_order, in_path_order_with}
use Rattle.fisca_params.proofs.Ordered.{Kept, placed_of}
use Rattle.fisca_params.proofs.read.in_path_order.Given as goal

-- what is left, put among what is in order, gives the whole
abbrev pub invariant-loop-place : goal.invariant-loop-place
invariant-loop-place l =
    (in_path_order l.files ≡ in_path_order_with (map placed_of l.sorted.entries) (enumerate_from l.place (drop l.place l.files)))
    × Kept l.place l.sorted.entries
