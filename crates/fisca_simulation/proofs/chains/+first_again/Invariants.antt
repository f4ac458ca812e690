use Rattle.std.proofs.Common.{length}
use Rattle.fisca_simulation.proofs.chains.+first_again.Given as goal

abbrev pub decreases-first_again : goal.decreases-first_again
decreases-first_again l = length l.keys.now
