use Rattle.fisca_simulation.proofs.NotedKeys.{keys_same}
use Rattle.fisca_simulation.proofs.following_laws.keys_that_are_noted_are_asked_for.Goals as goal

pub returns : goal.returns
returns c W key d = keys_same W key d
