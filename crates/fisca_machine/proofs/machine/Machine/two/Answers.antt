use Rattle.std.proofs.Common.{refl}
use Rattle.fisca_machine.proofs.machine.Machine.two.Goals as goal

pub returns-clause-same : goal.returns-clause-same
returns-clause-same c = rw (c.in-Ok.ensures) refl
