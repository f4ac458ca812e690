use Rattle.fisca_params.proofs.Origins.{nothing-else}
use Rattle.fisca_params.proofs.law.nothing_else_stands.Goals as goal

pub returns : goal.returns
returns c = nothing-else
