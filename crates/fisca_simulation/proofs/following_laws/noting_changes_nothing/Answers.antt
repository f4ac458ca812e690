use Rattle.fisca_simulation.proofs.Erased.{formula_same}
use Rattle.fisca_simulation.proofs.following_laws.noting_changes_nothing.Goals as goal

pub returns : goal.returns
returns c tables g ns e p = formula_same tables g ns e p
