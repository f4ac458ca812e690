use Rattle.fisca_writer.proofs.Rising.{rising_law, within_law}
use Rattle.fisca_writer.proofs.law.positions_rise.Goals as goal

pub returns : goal.returns
returns g c = record { rising = rising_law; within = within_law }
