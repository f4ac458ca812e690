-- The steps of code behind `Running`:
-- What a machine has still to do, told with what comes after it.
use Rattle.fisca_typing.specs.Answers.{arithmetic_of, logic_of, comparison_of, same_of}
use Rattle.fisca_model.specs.Values.{Value}
use Rattle.fisca_key_semantics.specs.Dialogues.{Dialogue}
use Rattle.fisca_machine.specs.declared.pending.Operation.{Operation}
use Rattle.fisca_machine.specs.declared.pending.Operation.TheVariants as operation

abbrev pub applied : Operation → Value → Value → Dialogue
applied (operation.Arithmetic o) = arithmetic_of o
applied (operation.Logic o) = logic_of o
applied (operation.Comparison o) = comparison_of o
applied operation.Same = same_of
