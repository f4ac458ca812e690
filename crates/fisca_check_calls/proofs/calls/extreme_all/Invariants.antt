use Rattle.std.proofs.Common.{◌≡◌, length}
use Rattle.std.specs.Vec.Iter.{into_iter_items, into_iter_len}
use Rattle.fisca_ir.specs.Views.{thing}
use Rattle.fisca_typing.specs.Calls.{extreme_all}
use Rattle.fisca_check_calls.specs.Arguments.{all_settled}
use Rattle.fisca_check_calls.proofs.calls.extreme_all.Given as goal

abbrev pub invariant-loop-other : goal.invariant-loop-other
invariant-loop-other l =
    (extreme_all l.fn.extreme (thing l.fn.first) (all_settled l.fn.others.items) ≡ extreme_all l.fn.extreme (thing l.found) (all_settled (into_iter_items l.other-iterator)))
    × (into_iter_len l.other-iterator ≡ length (into_iter_items l.other-iterator))
