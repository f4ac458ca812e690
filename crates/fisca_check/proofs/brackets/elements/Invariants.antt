use Rattle.std.proofs.Common.{◌≡◌, ◌++◌, Ok, length}
use Rattle.std.specs.Prelude.{map}
use Rattle.std.specs.Vec.Iter.{into_iter_items, into_iter_len}
use Rattle.fisca_check_calls.specs.Arguments.{all_given}
use Rattle.fisca_ir.specs.Views.{thing}
use Rattle.fisca_num.specs.Results.{and_then}
use Rattle.fisca_check.specs.Elements.{all_elements}
use Rattle.fisca_check.proofs.brackets.elements.Given as goal

abbrev pub invariant-loop-argument : goal.invariant-loop-argument
invariant-loop-argument l =
    (all_elements (all_given l.fn.arguments.items)
    ≡ and_then (all_elements (all_given (into_iter_items l.argument-iterator))) (λ xs. Ok (map thing l.things.items ++ xs)))
    × (into_iter_len l.argument-iterator ≡ length (into_iter_items l.argument-iterator))
