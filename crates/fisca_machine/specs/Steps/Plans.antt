-- The steps of code behind `Plans`:
-- What is made of known values and of the values of keys, one after another.
use Rattle.std.specs.Prelude.{Option, Some, None}
use Rattle.fisca_key_semantics.specs.Dialogues.{Dialogue, gives}
use Rattle.fisca_model.specs.Values.{Value}
use Rattle.fisca_machine.specs.Steps.Running.{applied}
use Rattle.fisca_machine.specs.declared.pending.Operation.{Operation}

-- what is made of the value so far and of an operand; without an operation it is the operand
abbrev pub made : Option Operation → Value → Value → Dialogue
made None x y = gives y
made (Some o) x y = applied o x y
