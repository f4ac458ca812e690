use Rattle.fisca_writer.proofs.Ranged.{joined_law, stopped_law}
use Rattle.fisca_writer.proofs.range_law.ranges_join.Goals as goal

pub returns : goal.returns
returns g c = record { joined = joined_law; stopped = stopped_law }
