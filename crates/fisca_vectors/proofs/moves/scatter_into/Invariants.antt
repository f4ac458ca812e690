use Rattle.std.proofs.Common.{◌≡◌, drop}
use Rattle.fisca_vectors.specs.Selected.{scattered}
use Rattle.fisca_vectors.proofs.moves.scatter_into.Given as goal

abbrev pub invariant-loop-i : goal.invariant-loop-i
invariant-loop-i l = scattered (drop l.i l.places) (drop l.i l.numerators) l.out ≡ scattered l.places l.numerators l.initial.out
