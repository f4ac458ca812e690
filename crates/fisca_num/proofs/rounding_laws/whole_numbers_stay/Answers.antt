use Rattle.fisca_num.proofs.Rounded.{floor_stays, ceil_stays, round_stays}
use Rattle.fisca_num.proofs.rounding_laws.whole_numbers_stay.Goals as goal

pub returns-clause-floor : goal.returns-clause-floor
returns-clause-floor c = floor_stays

pub returns-clause-ceiling : goal.returns-clause-ceiling
returns-clause-ceiling c = ceil_stays

pub returns-clause-nearest : goal.returns-clause-nearest
returns-clause-nearest c = round_stays
