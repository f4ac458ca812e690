use Rattle.fisca_run.proofs.Positions.{each_situated}
use Rattle.fisca_run.proofs.run_laws.positions_have_situations.Goals as goal

pub returns : goal.returns
returns c tables n f position read within =
    let at = each_situated tables n f read position in
    (at.moved, at.situation, at.moves, at.is)
