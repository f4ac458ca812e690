use Rattle.fisca_simulation.proofs.Fitting.{read_fits}
use Rattle.fisca_simulation.proofs.law.inputs_fit.Goals as goal

pub returns : goal.returns
returns c = read_fits
