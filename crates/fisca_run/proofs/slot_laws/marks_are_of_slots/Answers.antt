use Rattle.fisca_run.proofs.Marked.{has_all, has_only}
use Rattle.fisca_run.proofs.slot_laws.marks_are_of_slots.Goals as goal

pub returns : goal.returns
returns c = record { all = has_all; only = has_only }
