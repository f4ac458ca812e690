use Rattle.fisca_api.proofs.AcceptedRuns.{run_told}
use Rattle.fisca_api.proofs.answer_laws.accepted_runs_are_told.Goals as goal

pub returns : goal.returns
returns c = run_told
