use Rattle.std.proofs.Common.{◌≡◌}
use Rattle.fisca_web.specs.Message.{files_at}
use Rattle.fisca_web.proofs.message.files_in.Given as goal

abbrev pub invariant-loop-n : goal.invariant-loop-n
invariant-loop-n l = l.files.items ≡ files_at l.bytes l.ends l.first l.n
