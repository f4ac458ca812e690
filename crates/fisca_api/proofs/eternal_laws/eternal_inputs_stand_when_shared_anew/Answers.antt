use Rattle.fisca_api.proofs.Eternal.{shared_eternal, shared_finite}
use Rattle.fisca_api.proofs.eternal_laws.eternal_inputs_stand_when_shared_anew.Goals as goal

pub returns : goal.returns
returns c = record { eternal = shared_eternal; other = shared_finite }
