use Rattle.std.proofs.Common.{◌<◌, length}
use Rattle.fisca_cases_texts.proofs.params.find.Given as goal

abbrev pub invariant-loop-name : goal.invariant-loop-name
invariant-loop-name l = l.node < length l.tree
