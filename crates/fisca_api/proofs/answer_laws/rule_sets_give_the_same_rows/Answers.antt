use Rattle.fisca_api.proofs.Alike.{same_column, same_context, same_lacks, same_row}
use Rattle.fisca_api.proofs.answer_laws.rule_sets_give_the_same_rows.Goals as goal

pub returns : goal.returns
returns c = record { run = same_row; lacks = same_lacks; calc = same_column; test = same_context }
