use Rattle.std.proofs.Common.{arith, sym, ◌∙◌}
use Rattle.fisca_model.specs.Seen.{key_seen}
use Rattle.fisca_rules.specs.Views.{rule_set}
use Rattle.fisca_evaluator.proofs.Planning.{kept_plan}
use Rattle.fisca_evaluator.proofs.plans.Plans.of.Goals as goal

pub returns : goal.returns
returns c =
    let plans = c.args.self.now in
    let found = rw c.deref.ensures.value at c.in_ok-entry.ensures.lookup in
    kept_plan (rule_set plans.rules.now) plans.neutral.now plans.entries.items plans.truth _ c.in_ok-entry.entry.now (key_seen c.args.key.now) (omega arith) found.1 (sym c.is_same_key.ensures ∙ c.if-not-is_same_key.false)
    c.as_ref.result c.as_ref.ensures.value
