use Rattle.fisca_writer.proofs.Shares.{parts_law}
use Rattle.fisca_writer.proofs.range_law.parts_are_the_run.Goals as goal

pub returns : goal.returns
returns g c = parts_law
