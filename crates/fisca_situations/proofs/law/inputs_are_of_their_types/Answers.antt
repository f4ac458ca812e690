use Rattle.fisca_situations.proofs.Typed.{situation_typed}
use Rattle.fisca_situations.proofs.law.inputs_are_of_their_types.Goals as goal

pub returns : goal.returns
returns c = situation_typed
