use Rattle.fisca_time.proofs.Laws.{moved_back}
use Rattle.fisca_time.proofs.law.moves_go_back.Goals as goal

pub returns : goal.returns
returns c = moved_back
