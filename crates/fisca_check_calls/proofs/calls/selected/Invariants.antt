use Rattle.std.proofs.Common.{◌≡◌, length}
use Rattle.std.specs.Prelude.{map}
use Rattle.fisca_typing.specs.Calls.{selected}
use Rattle.fisca_ir.specs.Views.{node, typed}
use Rattle.fisca_check_calls.proofs.calls.selected.Given as goal

abbrev pub invariant-loop-condition : goal.invariant-loop-condition
invariant-loop-condition l =
    (length l.conditions.items ≡ length l.values.items)
    × (selected (map typed l.initial.conditions.items) (map typed l.initial.values.items) (node l.initial.found) ≡ selected (map typed l.conditions.items) (map typed l.values.items) (node l.found))

abbrev pub decreases-loop-condition : goal.decreases-loop-condition
decreases-loop-condition l = length l.conditions.items
