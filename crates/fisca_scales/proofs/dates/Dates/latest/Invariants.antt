use Rattle.fisca_scales.proofs.Latest.{IsBetween}
use Rattle.fisca_scales.proofs.dates.Dates.latest.Given as goal

abbrev pub invariant-halves : goal.invariant-halves
invariant-halves g l = IsBetween l.instant l.self l.place l.size

abbrev pub decreases-halves : goal.decreases-halves
decreases-halves g l = l.size
