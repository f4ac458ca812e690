use Rattle.fisca_api.proofs.Eternal.{never_overlaps}
use Rattle.fisca_api.proofs.eternal_laws.eternal_inputs_never_overlap.Goals as goal

pub returns : goal.returns
returns c t gs given x v declared eternal m p = never_overlaps t gs given.apart x v declared eternal m p
