use Rattle.fisca_num.proofs.Rounded.{floor_fits, ceil_fits, round_fits, rounded_to_none}
use Rattle.fisca_num.proofs.rounding_laws.rounded_to_whole_fits.Goals as goal

pub returns-clause-floor : goal.returns-clause-floor
returns-clause-floor c = floor_fits

pub returns-clause-ceiling : goal.returns-clause-ceiling
returns-clause-ceiling c = ceil_fits

pub returns-clause-nearest : goal.returns-clause-nearest
returns-clause-nearest c = round_fits

pub returns-clause-no_places : goal.returns-clause-no_places
returns-clause-no_places c = rounded_to_none
