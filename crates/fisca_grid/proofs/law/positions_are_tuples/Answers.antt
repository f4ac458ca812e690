use Rattle.fisca_grid.proofs.Tuples.{length-grid, tuple_at}
use Rattle.fisca_grid.proofs.law.positions_are_tuples.Goals as goal

pub returns : goal.returns
returns c = record { size = length-grid; places = tuple_at }
