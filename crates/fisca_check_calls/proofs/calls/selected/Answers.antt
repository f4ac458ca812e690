use Rattle.std.proofs.Common.{◌≡◌, ◌∷◌, ◌++◌, [], rules}
use Rattle.fisca_check_calls.proofs.Selected.{selected_step}
use Rattle.fisca_check_calls.proofs.calls.selected.Goals as goal

pub loop-condition-preserved : goal.loop-condition-preserved
loop-condition-preserved c =
    let conditions : c.loop-condition.conditions.items ≡ c.pop.new.self.items ++ c.in-Some.condition ∷ [] = search rules in
    let values : c.loop-condition.values.items ≡ c.pop-in-Some.new.self.items ++ c.in-Some-pop.value ∷ [] = search rules in
    selected_step _ _ _ _ _ _ _ _ _ c.loop-condition.invariant.0 c.loop-condition.invariant.1 conditions values c.in_ok-found.ensures
