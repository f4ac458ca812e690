use Rattle.std.proofs.Common.{◌∙◌}
use Rattle.std.proofs.lemmas.List.{length-set}
use Rattle.fisca_rules.specs.Views.{rule_set}
use Rattle.fisca_evaluator.proofs.Planning.{kept_more}
use Rattle.fisca_evaluator.proofs.plans.Plans.make.Goals as goal

pub invariant_of-self-clause-truth : goal.invariant_of-self-clause-truth
invariant_of-self-clause-truth c =
    let plans = c.args.self.now in
    rw c.in-Ok.ensures.items (kept_more (rule_set plans.rules.now) plans.neutral.now plans.entries.items plans.truth c.args.key.now c.plan_for-plan.result c.plan_for-plan.ensures)

pub invariant_of-self-in_default-clause-truth : goal.invariant_of-self-in_default-clause-truth
invariant_of-self-in_default-clause-truth c = rw c.in_default.ensures.items c.args.self.now.truth

pub invariant_of-self-clause-notes : goal.invariant_of-self-clause-notes
invariant_of-self-clause-notes c = length-set c.args.self.now.noted c.note.result c.min-place.result ∙ c.args.self.now.notes
