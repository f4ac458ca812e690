use Rattle.std.proofs.Common.{length}
use Rattle.fisca_evaluator.proofs.wheels.+is_fresh.Given as goal

abbrev pub decreases-is_fresh : goal.decreases-is_fresh
decreases-is_fresh l = length l.turned_at.now
