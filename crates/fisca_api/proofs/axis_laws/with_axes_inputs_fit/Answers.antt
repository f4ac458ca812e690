use Rattle.fisca_api.proofs.Fits.{given_fit}
use Rattle.fisca_api.proofs.axis_laws.with_axes_inputs_fit.Goals as goal

pub returns : goal.returns
returns c = given_fit
