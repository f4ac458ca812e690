use Rattle.fisca_api.proofs.Givens.{given_put, moved_put}
use Rattle.fisca_api.proofs.Turns.{turned_shared}
use Rattle.fisca_api.proofs.axis_laws.turning_shares_anew.Goals as goal

pub returns : goal.returns
returns c = record {
  shared = λ t neutral ms gs es wheel x k value given moves parts h. turned_shared t neutral ms gs es wheel x k value given moves parts h;
  given = λ t gs x k value given moves. given_put t gs x k value given moves.period moves.declared moves.numbers;
  moved = λ t gs x y k other value given moves. moved_put t gs x y k other value moves.period moves.alone;
}
