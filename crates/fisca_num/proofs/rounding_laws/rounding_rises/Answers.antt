use Rattle.fisca_num.proofs.Floors.{floor_of_rises, ceil_of_rises}
use Rattle.fisca_num.proofs.Near.{round_of_rises}
use Rattle.fisca_num.proofs.rounding_laws.rounding_rises.Goals as goal

pub returns-clause-floor : goal.returns-clause-floor
returns-clause-floor c = floor_of_rises

pub returns-clause-ceiling : goal.returns-clause-ceiling
returns-clause-ceiling c = ceil_of_rises

pub returns-clause-nearest : goal.returns-clause-nearest
returns-clause-nearest c = round_of_rises
