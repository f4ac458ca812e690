use Rattle.fisca_evaluator.proofs.Asking.{stopped, worked}
use Rattle.fisca_evaluator.proofs.answers.EvaluatorAnswers.value.Goals as goal

pub returns-in-Ok-clause-step : goal.returns-in-Ok-clause-step
returns-in-Ok-clause-step g c =
    let said = c.in-Ok.ensures in
    worked g.R.Recall.find c.args.self.now c.args.key c.value.new.self c.in-Ok.value (record { same = said.same; marks = said.wheels; grows = said.grows; counted = said.counted }) said.work said.lost

pub returns-in-Err-clause-step : goal.returns-in-Err-clause-step
returns-in-Err-clause-step g c =
    let said = c.in-Err.ensures in
    rw c.row_fault.ensures
    (stopped g.R.Recall.find c.args.self.now c.args.key c.value.new.self c.in-Err.fault (record { same = said.same; marks = said.wheels; grows = said.grows; counted = said.counted }) said.work
    said.lost)
