use Rattle.std.proofs.Common.{◌≡◌, ◌++◌, drop, Ok}
use Rattle.std.specs.Prelude.{map}
use Rattle.fisca_num.specs.Results.{and_then}
use Rattle.fisca_typing.specs.Parameters.{children_below}
use Rattle.fisca_check_calls.proofs.parameters.children_below.Given as goal

abbrev pub invariant-loop-place : goal.invariant-loop-place
invariant-loop-place l =
    children_below l.tree l.places (map (λ name. name.now) l.names)
    ≡ and_then (children_below l.tree (drop l.place-index l.places) (map (λ name. name.now) l.names)) (λ ps. Ok (l.found.items ++ ps))
