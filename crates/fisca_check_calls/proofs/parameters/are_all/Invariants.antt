use Rattle.std.proofs.Common.{◌≡◌, drop}
use Rattle.std.specs.List.{list_all}
use Rattle.fisca_typing.specs.Parameters.{kinds_at}
use Rattle.fisca_check_calls.specs.Parameters.{all_are}
use Rattle.fisca_check_calls.proofs.parameters.are_all.Given as goal

abbrev pub invariant-loop-place : goal.invariant-loop-place
invariant-loop-place l = list_all (all_are l.wanted) (kinds_at l.tree l.places) ≡ list_all (all_are l.wanted) (kinds_at l.tree (drop l.place-index l.places))
