use Rattle.std.proofs.Common.{inr, refl}
use Rattle.fisca_commands.proofs.calc.tell.Goals as goal

pub returns-in-Ok : goal.returns-in-Ok
returns-in-Ok c = inr (c.in-Ok.unanswered, refl, c.in-Ok.ensures)
