use Rattle.fisca_api.proofs.Eternal.{read_eternal, read_finite}
use Rattle.fisca_api.proofs.eternal_laws.eternal_inputs_stand_at_each_period.Goals as goal

pub returns : goal.returns
returns c = record { eternal = read_eternal; other = read_finite }
