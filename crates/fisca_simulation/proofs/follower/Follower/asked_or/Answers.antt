use Rattle.std.proofs.Common.{append-nil, refl, sym}
use Rattle.fisca_simulation.proofs.follower.Follower.asked_or.Goals as goal

pub returns-in-Ok : goal.returns-in-Ok
returns-in-Ok g c = rw c.in-Ok.is c.asked.ensures

pub returns-in-Err : goal.returns-in-Err
returns-in-Err g c = rw c.in-Err.is (refl, sym (append-nil _))
