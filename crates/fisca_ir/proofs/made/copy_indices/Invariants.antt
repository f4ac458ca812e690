use Rattle.std.proofs.Common.{◌≡◌, take}
use Rattle.std.specs.Prelude.{map}
use Rattle.fisca_ir.specs.Views.{index_view}
use Rattle.fisca_ir.proofs.made.copy_indices.Given as goal

abbrev pub invariant-loop-index : goal.invariant-loop-index
invariant-loop-index l = map index_view l.copies.items ≡ map index_view (take l.index-index l.chosen)
