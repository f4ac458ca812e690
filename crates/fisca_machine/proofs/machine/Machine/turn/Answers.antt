use Rattle.std.proofs.Common.{refl}
use Rattle.fisca_machine.proofs.machine.Machine.turn.Goals as goal

pub returns-in-Ok-keep-clause-same : goal.returns-in-Ok-keep-clause-same
returns-in-Ok-keep-clause-same c = rw (c.in-Ok-keep.ensures, c.in-Ok.ensures, c.in-Some.ensures) refl
