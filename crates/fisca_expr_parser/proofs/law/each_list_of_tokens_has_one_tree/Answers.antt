use Rattle.fisca_expr_parser.proofs.Laws.{one_tree}
use Rattle.fisca_expr_parser.proofs.law.each_list_of_tokens_has_one_tree.Goals as goal

pub returns : goal.returns
returns c = one_tree
