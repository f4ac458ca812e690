use Rattle.fisca_ir.proofs.Indices.{behind_all}
use Rattle.fisca_ir.proofs.made.push_index.Goals as goal

pub returns : goal.returns
returns c = behind_all _ _ _ _ _ c.in_ok-push.ensures.items c.in_ok-index.ensures
