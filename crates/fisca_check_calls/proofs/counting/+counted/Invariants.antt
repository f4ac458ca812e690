use Rattle.std.proofs.Common.{◌≡◌, drop}
use Rattle.std.specs.Prelude.{map}
use Rattle.fisca_ast.specs.Views.{argument_view}
use Rattle.fisca_typing.specs.Sizes.{beside, capped}
use Rattle.fisca_check_calls.specs.Counts.{size}
use Rattle.fisca_check_calls.specs.Locals.{sizes}
use Rattle.fisca_check_calls.proofs.Counted.{all_in}
use Rattle.fisca_check_calls.proofs.counting.+counted.Given as goal

abbrev pub invariant-size_all-loop-item : goal.invariant-size_all-loop-item
invariant-size_all-loop-item l =
    (capped (all_in (sizes l.locals) (map argument_view l.items)) ≡ capped (beside (size l.found) (all_in (sizes l.locals) (map argument_view (drop l.item-index l.items)))))
    × (capped (size l.found) ≡ size l.found)
