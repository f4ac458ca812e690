use Rattle.std.proofs.Common.{◌≡◌, ◌++◌, drop, Ok}
use Rattle.std.specs.Prelude.{map}
use Rattle.fisca_num.specs.Results.{and_then}
use Rattle.fisca_typing.specs.Parameters.{children_named}
use Rattle.fisca_check_calls.proofs.parameters.children_named.Given as goal

abbrev pub invariant-loop-name : goal.invariant-loop-name
invariant-loop-name l =
    children_named l.tree l.place (map (λ name. name.now) l.names)
    ≡ and_then (children_named l.tree l.place (map (λ name. name.now) (drop l.name-index l.names))) (λ ps. Ok (l.found.items ++ ps))
