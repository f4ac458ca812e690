use Rattle.fisca_num.proofs.Rounded.{rounded_fault}
use Rattle.fisca_num.proofs.rounding_laws.rounding_to_places_fails_where_too_wide.Goals as goal

pub returns : goal.returns
returns c = rounded_fault
