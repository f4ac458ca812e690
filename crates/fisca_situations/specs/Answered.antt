-- What is answered for a key.
use Rattle.std.specs.Prelude.{◌≡◌, ⊤, Result, Ok, Err}
use Rattle.fisca_writer.specs.declared.fault.RowFault.{RowFault}
use Rattle.fisca_writer.specs.declared.fault.RowFault.TheVariants as fault
use Rattle.fisca_model.specs.declared.value.Value.{Value}

-- a value, or why there is none; want of memory says nothing of it
abbrev pub IsAnswer : {F : Type 0} → Result Value F → Result Value (RowFault F) → Type 0
IsAnswer answer (Ok v) = answer ≡ Ok v
IsAnswer answer (Err (fault.Eval f)) = answer ≡ Err f
IsAnswer answer (Err fault.Memory) = ⊤
