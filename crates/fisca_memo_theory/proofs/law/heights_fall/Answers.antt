use Rattle.fisca_memo_theory.proofs.Laws.{heights_fall}
use Rattle.fisca_memo_theory.proofs.law.heights_fall.Goals as goal

pub returns : goal.returns
returns c src k j h i asks height below = heights_fall src k j h i asks height below
