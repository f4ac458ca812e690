use Rattle.fisca_run.proofs.OfFiles.{at_position, start, starts}
use Rattle.fisca_run.proofs.slot_laws.slots_turn_from_the_start.Goals as goal

pub returns : goal.returns
returns c tables n f read = (start tables n f read, starts tables n f read, at_position tables n f read)
