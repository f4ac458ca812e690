use Rattle.fisca_api.proofs.AcceptedColumns.{calc_told}
use Rattle.fisca_api.proofs.answer_laws.accepted_calculations_are_told.Goals as goal

pub returns : goal.returns
returns c = calc_told
