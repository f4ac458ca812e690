use Rattle.fisca_num.proofs.Rounded.{rounded_to_rises}
use Rattle.fisca_num.proofs.rounding_laws.rounding_to_places_rises.Goals as goal

pub returns : goal.returns
returns c = rounded_to_rises
