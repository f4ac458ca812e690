use Rattle.std.proofs.Common.{◌≡◌, ◌++◌, Ok, length}
use Rattle.std.specs.Prelude.{map}
use Rattle.std.specs.Vec.Iter.{into_iter_items, into_iter_len}
use Rattle.fisca_ir.specs.Views.{listed, typed}
use Rattle.fisca_num.specs.Results.{and_then}
use Rattle.fisca_typing.specs.Operations.{typed_all}
use Rattle.fisca_check_calls.proofs.calls.values_of.Given as goal

abbrev pub invariant-loop-thing : goal.invariant-loop-thing
invariant-loop-thing l =
    (typed_all (listed l.fn.things.items)
    ≡ and_then (typed_all (listed (into_iter_items l.thing-iterator))) (λ vs. Ok (map typed l.values.items ++ vs)))
    × (into_iter_len l.thing-iterator ≡ length (into_iter_items l.thing-iterator))
