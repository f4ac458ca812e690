use Rattle.std.proofs.Common.{◌≡◌, ◌++◌, Ok, length}
use Rattle.std.specs.Vec.Iter.{into_iter_items, into_iter_len}
use Rattle.fisca_num.specs.Results.{and_then}
use Rattle.fisca_typing.specs.Calls.{settled}
use Rattle.fisca_check_calls.specs.Arguments.{all_given, all_settled}
use Rattle.fisca_check_calls.proofs.arguments.settle.Given as goal

abbrev pub invariant-loop-argument : goal.invariant-loop-argument
invariant-loop-argument l =
    (settled (all_given l.fn.arguments.items)
    ≡ and_then (settled (all_given (into_iter_items l.argument-iterator))) (λ ss. Ok (all_settled l.found.items ++ ss)))
    × (into_iter_len l.argument-iterator ≡ length (into_iter_items l.argument-iterator))
