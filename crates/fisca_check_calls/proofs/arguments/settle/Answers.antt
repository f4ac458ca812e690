use Rattle.std.proofs.Common.{◌≡◌, ◌∙◌, ap, ◌∷◌, length, arith, rules}
use Rattle.std.proofs.lemmas.List.{map-append}
use Rattle.std.specs.Prelude.{map}
use Rattle.std.specs.Vec.Iter.{into_iter_items}
use Rattle.fisca_check_calls.specs.Arguments.{all_given, outcome, settled}
use Rattle.fisca_check_calls.proofs.Rows.{none_left, settled_step, settled_end}
use Rattle.fisca_check_calls.proofs.arguments.settle.Goals as goal

pub loop-argument-preserved : goal.loop-argument-preserved
loop-argument-preserved c =
    let seen : into_iter_items c.loop-argument.argument-iterator ≡ c.in-Some.argument ∷ into_iter_items c.next.new.self = search rules in (
      settled_step _ _ _ _ _ _ _ c.loop-argument.invariant.0 (ap all_given seen) (ap outcome c.in_ok-thing.was) (ap (map settled) c.in_ok-push.ensures.items ∙ map-append settled c.loop-argument.found.items _),
      omega (arith, ap length seen, c.in-Some.ensures.steps.1, c.loop-argument.invariant.1),
    )

pub returns : goal.returns
returns c =
    settled_end _ _ _ c.loop-argument.invariant.0 (ap all_given (none_left _ _ c.in-None.ensures.steps.0 c.loop-argument.invariant.1))
