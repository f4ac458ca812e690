use Rattle.std.proofs.Common.{Err}
use Rattle.fisca_situations.proofs.Asking.{steps_freely}
use Rattle.fisca_model.specs.declared.value.Value.{Value}
use Rattle.fisca_simulation.proofs.answers.PlainEvaluatorAnswers.value.Goals as goal

pub returns-in-Err-clause-step : goal.returns-in-Err-clause-step
returns-in-Err-clause-step c = steps_freely {X = Value} (Err c.row_fault.result)
