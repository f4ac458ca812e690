use Rattle.fisca_inputs.proofs.SharedLaws.{defaults_stand}
use Rattle.fisca_inputs.proofs.law.defaults_stand_beside.Goals as goal

pub returns : goal.returns
returns c = defaults_stand
