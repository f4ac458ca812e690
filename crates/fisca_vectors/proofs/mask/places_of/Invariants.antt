use Rattle.std.proofs.Common.{◌≡◌, ◌++◌, drop}
use Rattle.fisca_vectors.specs.Selected.{places_from}
use Rattle.fisca_vectors.proofs.mask.places_of.Given as goal

abbrev pub invariant-loop-i : goal.invariant-loop-i
invariant-loop-i l = l.places.items ++ places_from l.i (drop l.i l.flags) ≡ places_from 0 l.flags
