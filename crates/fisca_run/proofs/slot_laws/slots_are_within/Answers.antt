use Rattle.fisca_run.proofs.Within.{all_within}
use Rattle.fisca_run.proofs.slot_laws.slots_are_within.Goals as goal

pub returns : goal.returns
returns c tables n f read = all_within tables n f read
