use Rattle.fisca_parser.proofs.Laws.{one_module}
use Rattle.fisca_parser.proofs.law.each_text_has_one_module.Goals as goal

pub returns : goal.returns
returns c = one_module
