use Rattle.fisca_simulation.proofs.Fitting.{fits_left}
use Rattle.fisca_simulation.proofs.law.inputs_fit_when_neutralised.Goals as goal

pub returns : goal.returns
returns c = fits_left
