use Rattle.fisca_api.proofs.Givens.{read_given}
use Rattle.fisca_api.proofs.axis_laws.inputs_are_given.Goals as goal

pub returns : goal.returns
returns c = read_given
