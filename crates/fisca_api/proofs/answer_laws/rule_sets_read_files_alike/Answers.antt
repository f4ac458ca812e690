use Rattle.fisca_api.proofs.Alike.{same_calc, same_run, same_tests}
use Rattle.fisca_api.proofs.answer_laws.rule_sets_read_files_alike.Goals as goal

pub returns : goal.returns
returns c = record { run = same_run; calc = same_calc; test = same_tests }
