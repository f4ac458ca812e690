-- Totals over persons: what they begin with, and what one person more makes of them.
use Rattle.fisca_typing.specs.declared.operations.Arithmetic.TheVariants as arith
use Rattle.fisca_typing.specs.declared.operations.Logic.TheVariants as logic
use Rattle.fisca_typing.specs.declared.operations.Total.{Total}
use Rattle.fisca_typing.specs.declared.operations.Total.TheVariants as total
use Rattle.fisca_typing.specs.Answers.{arithmetic_of, logic_of}
use Rattle.fisca_model.specs.Values.{Value}
use Rattle.fisca_key_semantics.specs.Dialogues.{Dialogue}

abbrev pub step_of : Total → Value → Value → Dialogue
step_of total.Sum = arithmetic_of arith.Add
step_of total.Min = arithmetic_of arith.Min
step_of total.Max = arithmetic_of arith.Max
step_of total.Any = logic_of logic.Or
step_of total.All = logic_of logic.And
