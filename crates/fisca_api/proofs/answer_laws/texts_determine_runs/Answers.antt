use Rattle.fisca_api.proofs.AcceptedRuns.{same_rows}
use Rattle.fisca_api.proofs.Once.{running_once}
use Rattle.fisca_api.proofs.answer_laws.texts_determine_runs.Goals as goal

pub returns : goal.returns
returns c = record {
  rows = same_rows;
  run = λ files text options r q one two. let once = running_once files text options.form q r two one in (once.1, once.2);
}
