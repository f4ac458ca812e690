use Rattle.fisca_api.proofs.AcceptedColumns.{line_told}
use Rattle.fisca_api.proofs.answer_laws.accepted_lines_are_told.Goals as goal

pub returns : goal.returns
returns c = line_told
