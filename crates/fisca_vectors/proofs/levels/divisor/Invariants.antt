use Rattle.fisca_vectors.proofs.levels.divisor.Given as goal

abbrev pub decreases-loop-y : goal.decreases-loop-y
decreases-loop-y l = l.y
