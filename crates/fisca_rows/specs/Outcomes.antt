-- What functions answer that ask for the values of keys, where memory lasts.
use Rattle.std.specs.Prelude.{◌≡◌, ⊤, ℕ, ◌++◌, List, Result, Ok, Err}
use Rattle.fisca_forms.specs.Forms.{Cell}
use Rattle.fisca_forms.specs.LineForms.{Form, cells_from}
use Rattle.fisca_writer.specs.declared.fault.RowFault.{RowFault}
use Rattle.fisca_writer.specs.declared.fault.RowFault.TheVariants as fault

-- this outcome, or its fault; want of memory says nothing of it
abbrev pub IsOutcome : {F X : Type 0} → Result X F → Result X (RowFault F) → Type 0
IsOutcome outcome (Ok x) = outcome ≡ Ok x
IsOutcome outcome (Err (fault.Eval f)) = outcome ≡ Err f
IsOutcome outcome (Err fault.Memory) = ⊤

-- the same of a text, which is then in the buffer
abbrev pub IsWritten : {F X : Type 0} → Result (List ℕ) F → List ℕ → Result X (RowFault F) → Type 0
IsWritten outcome text (Ok x) = outcome ≡ Ok text
IsWritten outcome text (Err (fault.Eval f)) = outcome ≡ Err f
IsWritten outcome text (Err fault.Memory) = ⊤

-- the same of cells, which are then behind what was in the buffer, from a place of the line on
abbrev pub IsCells : {F X : Type 0} → Form → ℕ → Result (List Cell) F → List ℕ → List ℕ → Result X (RowFault F) → Type 0
IsCells form place outcome old new (Ok x) = (cells : List Cell) × (outcome ≡ Ok cells) × (new ≡ old ++ cells_from form.format form.names place cells)
IsCells form place outcome old new (Err (fault.Eval f)) = outcome ≡ Err f
IsCells form place outcome old new (Err fault.Memory) = ⊤
