-- What operations on values answer, as dialogues that ask for nothing.
use Rattle.std.specs.Prelude.{Result, Ok, Err}
use Rattle.fisca_model.specs.Seen.{key_seen, value_seen}
use Rattle.fisca_model.specs.declared.value.Value.{Value}
use Rattle.fisca_model.specs.declared.key.Key.{Key}
use Rattle.fisca_key_semantics.specs.Dialogues as meaning
use Rattle.fisca_model.specs.Values as model
use Rattle.fisca_key_semantics.specs.Dialogues.{Dialogue, gives, fails, stuck, asks}
use Rattle.fisca_ops.specs.declared.fault.OperationFault.{OperationFault}
use Rattle.fisca_ops.specs.declared.fault.OperationFault.TheVariants as fault

abbrev pub fault_seen : OperationFault → meaning.OperationFault
fault_seen fault.ZeroDivisor = meaning.zero_divisor
fault_seen fault.TooWide = meaning.too_wide
fault_seen fault.ParameterUndefined = meaning.parameter_undefined
fault_seen fault.BadScale = meaning.bad_scale
fault_seen fault.NoMember = meaning.no_member
fault_seen (fault.PeriodMismatch k) = meaning.period_mismatch (key_seen k)
fault_seen fault.PeriodOutOfRange = meaning.period_out_of_range

-- the dialogue that ends at once, with this value or fault
abbrev pub ended : Result Value OperationFault → Dialogue
ended (Ok v) = gives (value_seen v)
ended (Err e) = fails (fault_seen e)

-- the dialogue that asks for this key and goes on with its value, or ends with the fault
abbrev pub asked : Result Key OperationFault → (model.Value → Dialogue) → Dialogue
asked (Ok k) f = asks (key_seen k) f
asked (Err e) f = fails (fault_seen e)

-- it gives, fails or asks
abbrev pub IsMoving : Dialogue → Type 0
IsMoving (gives v) = Unit {0}
IsMoving (fails e) = Unit {0}
IsMoving stuck = ⊥
IsMoving (asks k f) = Unit {0}
