use Rattle.fisca_api.proofs.Turns.{given_then, moved_then, others_then, put}
use Rattle.fisca_api.proofs.axis_laws.axes_are_put_in.Goals as goal

pub returns : goal.returns
returns c = record {
  given = λ t neutral s gs wheel k m given period h. given_then t neutral s gs wheel k m given h period;
  moved = λ t neutral s gs wheel k m given period h. moved_then t neutral s gs wheel k m given h period;
  shared = λ t neutral s gs wheel k m h. let is = put t neutral s gs wheel k m h in (is.members, is.shares);
  others = λ t neutral s gs wheel k m given period h. others_then t neutral s gs wheel k m given h period;
}
