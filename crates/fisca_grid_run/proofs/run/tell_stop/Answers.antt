use Rattle.std.proofs.Common.{inr, refl}
use Rattle.fisca_grid_run.proofs.run.tell_stop.Goals as goal

pub returns-in-Ok : goal.returns-in-Ok
returns-in-Ok c =
    rw c.in-Eval.is (inr (c.in-Ok.fault, refl, c.in-Ok.ensures))
