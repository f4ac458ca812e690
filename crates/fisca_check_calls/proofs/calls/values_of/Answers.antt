use Rattle.std.proofs.Common.{◌≡◌, ◌∙◌, ap, ◌∷◌, [], length, arith, rules}
use Rattle.std.proofs.lemmas.List.{map-append}
use Rattle.std.specs.Prelude.{map}
use Rattle.std.specs.Vec.Iter.{into_iter_items}
use Rattle.fisca_ir.specs.Views.{typed}
use Rattle.fisca_check_calls.proofs.Rows.{none_left, values_step, values_end}
use Rattle.fisca_check_calls.proofs.calls.values_of.Goals as goal

pub loop-thing-preserved : goal.loop-thing-preserved
loop-thing-preserved c =
    let seen : into_iter_items c.loop-thing.thing-iterator ≡ c.in-Some.thing ∷ into_iter_items c.next.new.self = search rules in (
      values_step _ _ _ _ _ _ _ c.loop-thing.invariant.0 seen c.in_ok-value_of.ensures (ap (map typed) c.in_ok-push.ensures.items ∙ map-append typed c.loop-thing.values.items (c.in_ok-value_of.field-0 ∷ [])),
      omega (arith, ap length seen, c.in-Some.ensures.steps.1, c.loop-thing.invariant.1),
    )

pub returns : goal.returns
returns c =
    values_end _ _ _ c.loop-thing.invariant.0 (none_left _ _ c.in-None.ensures.steps.0 c.loop-thing.invariant.1)
