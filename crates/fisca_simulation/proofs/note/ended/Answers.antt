use Rattle.std.proofs.Common.{refl, sym, append-nil}
use Rattle.fisca_simulation.proofs.note.ended.Goals as goal

pub returns-in-Ok : goal.returns-in-Ok
returns-in-Ok c w ns = rw c.in-Ok.is (refl, sym (append-nil ns))

pub returns-in-Err : goal.returns-in-Err
returns-in-Err c w ns = rw c.in-Err.is (refl, sym (append-nil ns))
