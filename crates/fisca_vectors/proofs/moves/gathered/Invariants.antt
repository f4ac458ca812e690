use Rattle.std.proofs.Common.{◌≡◌, map, take}
use Rattle.fisca_vectors.specs.Numerators.{at}
use Rattle.fisca_vectors.proofs.moves.gathered.Given as goal

abbrev pub invariant-loop-place : goal.invariant-loop-place
invariant-loop-place l = l.made.items ≡ map (λ p. at l.numerators p) (take l.place-index l.places)
