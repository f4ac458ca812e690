use Rattle.fisca_slots.proofs.TurnedSlots.{turned_other}
use Rattle.fisca_slots.proofs.law.turning_keeps_other_variables.Goals as goal

pub returns : goal.returns
returns c = turned_other
