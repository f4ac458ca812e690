use Rattle.fisca_commands.proofs.CalcFitting.{calc_fits}
use Rattle.fisca_commands.proofs.file_laws.calc_inputs_fit.Goals as goal

pub returns : goal.returns
returns c = calc_fits
