use Rattle.fisca_api.proofs.Numbers.{slot_numbers}
use Rattle.fisca_api.proofs.axis_laws.slots_have_numbers.Goals as goal

pub returns : goal.returns
returns c = slot_numbers
