use Rattle.fisca_inputs.proofs.SharedLaws.{divided_input_adds}
use Rattle.fisca_inputs.proofs.law.shares_add_up.Goals as goal

pub returns : goal.returns
returns c = divided_input_adds
