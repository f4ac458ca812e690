use Rattle.fisca_api.proofs.AcceptedColumns.{same_lines}
use Rattle.fisca_api.proofs.AcceptedTests.{same_report}
use Rattle.fisca_api.proofs.answer_laws.texts_determine_lines_and_reports.Goals as goal

pub returns : goal.returns
returns c = record { calc = same_lines; test = same_report }
