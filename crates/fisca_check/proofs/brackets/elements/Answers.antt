use Rattle.std.proofs.Common.{◌≡◌, ◌∙◌, ap, ◌∷◌, [], length, arith, rules}
use Rattle.std.proofs.lemmas.List.{map-append}
use Rattle.std.specs.Prelude.{map}
use Rattle.std.specs.Vec.Iter.{into_iter_items}
use Rattle.fisca_check_calls.specs.Arguments.{all_given}
use Rattle.fisca_ir.specs.Views.{thing}
use Rattle.fisca_check.proofs.Elements.{elements_step, elements_end, none_left}
use Rattle.fisca_check.proofs.brackets.elements.Goals as goal

pub loop-argument-preserved : goal.loop-argument-preserved
loop-argument-preserved c =
    let seen : into_iter_items c.loop-argument.argument-iterator ≡ c.in-Some.argument ∷ into_iter_items c.next.new.self = search rules in (
      elements_step _ _ _ _ _ _ _ c.loop-argument.invariant.0 (ap all_given seen) c.in_ok-element.ensures
          (ap (map thing) c.in_ok-push.ensures.items ∙ map-append thing c.loop-argument.things.items (c.in_ok-element.field-0 ∷ [])),
      omega (arith, ap length seen, c.in-Some.ensures.steps.1, c.loop-argument.invariant.1),
    )

pub returns : goal.returns
returns c =
    elements_end _ _ _ c.loop-argument.invariant.0 (ap all_given (none_left _ _ c.in-None.ensures.steps.0 c.loop-argument.invariant.1))
