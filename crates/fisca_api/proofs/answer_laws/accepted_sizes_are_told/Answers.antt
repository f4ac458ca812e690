use Rattle.fisca_api.proofs.AcceptedRuns.{size_told}
use Rattle.fisca_api.proofs.answer_laws.accepted_sizes_are_told.Goals as goal

pub returns : goal.returns
returns c = size_told
