use Rattle.fisca_num.proofs.Floors.{floor_law, ceil_law}
use Rattle.fisca_num.proofs.rounding_laws.floor_and_ceiling_enclose.Goals as goal

pub returns-clause-floor : goal.returns-clause-floor
returns-clause-floor c = floor_law

pub returns-clause-ceiling : goal.returns-clause-ceiling
returns-clause-ceiling c = ceil_law
