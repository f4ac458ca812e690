use Rattle.fisca_evaluator.proofs.Risen.{counts_rise}
use Rattle.fisca_evaluator.proofs.law.counts_rise_by_what_is_added.Goals as goal

pub returns : goal.returns
returns c = counts_rise
