use Rattle.fisca_simulation.proofs.Told.{is_answer, is_no_want}
use Rattle.fisca_simulation.proofs.law.answers_are_told.Goals as goal

pub returns-clause-answer : goal.returns-clause-answer
returns-clause-answer c m ready = is_answer m (c.no_operand_is_of_a_wrong_type.ensures m ready.safe ready.fit)

pub returns-clause-fault : goal.returns-clause-fault
returns-clause-fault c m ready = is_no_want m (c.no_operand_is_of_a_wrong_type.ensures m ready.safe ready.fit)
