use Rattle.fisca_evaluator.proofs.Fitting.{turned_fit}
use Rattle.fisca_evaluator.proofs.law.inputs_fit_when_turned.Goals as goal

pub returns : goal.returns
returns c = turned_fit
