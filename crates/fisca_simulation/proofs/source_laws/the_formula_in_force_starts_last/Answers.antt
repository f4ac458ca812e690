use Rattle.fisca_simulation.proofs.Latest.{is_in_force}
use Rattle.fisca_simulation.proofs.source_laws.the_formula_in_force_starts_last.Goals as goal

pub returns : goal.returns
returns c = is_in_force
