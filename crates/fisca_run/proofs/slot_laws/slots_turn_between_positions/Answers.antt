use Rattle.fisca_run.proofs.OfPositions.{turned_to}
use Rattle.fisca_run.proofs.slot_laws.slots_turn_between_positions.Goals as goal

pub returns : goal.returns
returns c tables n f read here there wheel later before after old new at_here values at_there others inputs is =
    turned_to tables n f read here there old new values others before after at_here at_there inputs is wheel later
