use Rattle.fisca_expr_parser.proofs.Characters.{read_whole}
use Rattle.fisca_expr_parser.proofs.law.each_token_is_read_whole.Goals as goal

pub returns : goal.returns
returns c = read_whole
