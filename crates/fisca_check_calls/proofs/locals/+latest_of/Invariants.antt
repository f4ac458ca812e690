use Rattle.std.proofs.Common.{length}
use Rattle.fisca_check_calls.proofs.locals.+latest_of.Given as goal

abbrev pub decreases-latest_of : goal.decreases-latest_of
decreases-latest_of l = length l.locals.now
