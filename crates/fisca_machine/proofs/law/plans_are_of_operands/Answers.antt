use Rattle.fisca_machine.proofs.Planned.{plan_of_operands}
use Rattle.fisca_machine.proofs.law.plans_are_of_operands.Goals as goal

pub returns : goal.returns
returns c = plan_of_operands
