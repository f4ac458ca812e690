use Rattle.std.proofs.Common.{◌≡◌, take}
use Rattle.std.specs.Prelude.{map}
use Rattle.fisca_check_calls.specs.Arguments.{all_given}
use Rattle.fisca_ast.specs.Views.{argument_view}
use Rattle.fisca_typing.specs.Typing.{given_of}
use Rattle.fisca_check.specs.Views.{names}
use Rattle.fisca_check.proofs.typing.+typing.Given as goal

abbrev pub invariant-all_given-loop-item : goal.invariant-all_given-loop-item
invariant-all_given-loop-item l =
    (all_given l.found.items ≡ map (given_of (names l.names)) (map argument_view (take l.item-index l.items)))
    × (l.rows ≡ l.initial.rows)
