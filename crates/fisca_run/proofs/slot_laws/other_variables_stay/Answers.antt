use Rattle.fisca_run.proofs.OfPositions.{stays_at}
use Rattle.fisca_run.proofs.slot_laws.other_variables_stay.Goals as goal

pub returns : goal.returns
returns c tables n f read here there before after old new at_here values at_there others inputs fs is are k places =
    stays_at tables n f read here there old new values others before after at_here at_there inputs is fs are k places
