use Rattle.fisca_simulation.proofs.NotedKeys.{ends_same}
use Rattle.fisca_simulation.proofs.following_laws.formulas_end_as_they_are_followed.Goals as goal

pub returns : goal.returns
returns c W key d = ends_same W key d
