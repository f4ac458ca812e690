use Rattle.std.proofs.Common.{◌≡◌, Some, sym}
use Rattle.fisca_memo_theory.specs.Entries.{Remembered}
use Rattle.fisca_memo_theory.proofs.WorkDone.{covered_known}
use Rattle.fisca_key_semantics.specs.Answers.{known}
use Rattle.fisca_inputs.specs.Entries.{value_at}
use Rattle.fisca_model.specs.Seen.{key_of, key_seen, value_seen}
use Rattle.fisca_model.specs.declared.value.Value.{Value}
use Rattle.fisca_model.specs.declared.key.Key.{Key}
use Rattle.fisca_machine.specs.declared.plan.Plan.{Plan}
use Rattle.fisca_evaluator.specs.Plans.{IsPlanOf}
use Rattle.fisca_evaluator.specs.declared.evaluation.Evaluation.{Evaluation}
use Rattle.fisca_simulation.proofs.Origins.{of_input}
use Rattle.fisca_evaluator.proofs.Planning.{found_formula, planned_work}
use Rattle.fisca_evaluator.proofs.Outcomes.{on_ok_any, told_any}
use Rattle.fisca_evaluator.proofs.Risen.{counted_none}
use Rattle.fisca_evaluator.specs.Evaluations.{seen, sources_in}
use Rattle.fisca_evaluator.proofs.played.value_by_plan.Goals as goal

-- the input is what the key's value comes from
module _ (s : Evaluation) (key : Key) (p : Plan) (is : IsPlanOf (seen s).rules (seen s).neutral (key_seen key) p) (x : Value) (given : value_at (seen s).situation.inputs (key_of (key_seen key)) ≡ Some x) where
  by_input : sources_in s (key_seen key) ≡ known (value_seen x)
  by_input =
      let found = found_formula (seen s).rules (seen s).neutral (key_seen key) is.0 in
      of_input (seen s) (key_seen key) found.0 found.1.0 x given

pub at_hand-requires-clause-known : goal.at_hand-requires-clause-known
at_hand-requires-clause-known g c = by_input c.args.evaluation.now c.args.key.now c.args.plan.now c.requires.planned c.in-Some-input.value (sym c.in-Some-input.ensures)

pub by_plan-requires-clause-work : goal.by_plan-requires-clause-work
by_plan-requires-clause-work g c = planned_work c.args.evaluation.now c.args.key.now c.args.plan.now c.requires.evaluation c.requires.planned (sym c.in_default-input.ensures)

pub returns-in_err-known-clause-counted : goal.returns-in_err-known-clause-counted
returns-in_err-known-clause-counted g c = counted_none _ _

pub returns-in-Some-clause-counted : goal.returns-in-Some-clause-counted
returns-in-Some-clause-counted g c = counted_none _ _

pub returns-in-Some-input-clause-covered : goal.returns-in-Some-input-clause-covered
returns-in-Some-input-clause-covered g c =
    let s = c.args.evaluation.now in
    let k = key_seen c.args.key.now in
    let e = by_input s c.args.key.now c.args.plan.now c.requires.planned c.in-Some-input.value (sym c.in-Some-input.ensures) in
    on_ok_any c.at_hand.result _ (covered_known (sources_in s) (Remembered (g.R.Recall.find c.args.store.now.recall)) k (value_seen c.in-Some-input.value) e)

pub returns-in-Some-input-clause-stopped : goal.returns-in-Some-input-clause-stopped
returns-in-Some-input-clause-stopped g c =
    let s = c.args.evaluation.now in
    let k = key_seen c.args.key.now in
    let e = by_input s c.args.key.now c.args.plan.now c.requires.planned c.in-Some-input.value (sym c.in-Some-input.ensures) in
    told_any c.at_hand.result _ (λ i w. covered_known (sources_in s) (Remembered (g.R.Recall.find c.args.store.now.recall)) k (value_seen c.in-Some-input.value) e _ i w)

pub returns-in-Some-input-clause-counted : goal.returns-in-Some-input-clause-counted
returns-in-Some-input-clause-counted g c = counted_none _ _
