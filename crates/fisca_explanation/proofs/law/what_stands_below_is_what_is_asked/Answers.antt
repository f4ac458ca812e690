use Rattle.fisca_explanation.proofs.Depths.{asked_below}
use Rattle.fisca_explanation.proofs.law.what_stands_below_is_what_is_asked.Goals as goal

pub returns : goal.returns
returns c src n path before key d e fresh = asked_below src n path before key d e fresh
