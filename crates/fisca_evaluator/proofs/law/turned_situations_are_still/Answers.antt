use Rattle.fisca_evaluator.proofs.Turning.{turned_still}
use Rattle.fisca_evaluator.proofs.law.turned_situations_are_still.Goals as goal

pub returns : goal.returns
returns c = turned_still
