use Rattle.std.proofs.Common.{◌≡◌, ap, ◌∷◌, length, arith, rules}
use Rattle.std.specs.Vec.Iter.{into_iter_items}
use Rattle.fisca_check_calls.specs.Arguments.{all_settled}
use Rattle.fisca_check_calls.proofs.Rows.{none_left, extreme_step, extreme_end}
use Rattle.fisca_check_calls.proofs.calls.extreme_all.Goals as goal

pub loop-other-preserved : goal.loop-other-preserved
loop-other-preserved c =
    let seen : into_iter_items c.loop-other.other-iterator ≡ c.in-Some.other ∷ into_iter_items c.next.new.self = search rules in (
      extreme_step _ _ _ _ _ _ _ c.loop-other.invariant.0 (ap all_settled seen) c.in_ok-found.ensures,
      omega (arith, ap length seen, c.in-Some.ensures.steps.1, c.loop-other.invariant.1),
    )

pub returns : goal.returns
returns c =
    extreme_end _ _ _ _ c.loop-other.invariant.0 (ap all_settled (none_left _ _ c.in-None.ensures.steps.0 c.loop-other.invariant.1))
