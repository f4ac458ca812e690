-- What stands at a position of a grid.
use Rattle.std.specs.Prelude.{◌≡◌, ℕ, List, Option, Some, None, Result, Ok, Err, ⊤}
use Rattle.fisca_writer.specs.declared.rows.Selection.{Selection}
use Rattle.fisca_writer.specs.declared.rows.Selection.TheVariants.{Kept, Dropped}
use Rattle.fisca_writer.specs.declared.fault.RowFault.{RowFault}
use Rattle.fisca_writer.specs.declared.fault.RowFault.TheVariants as fault

-- nothing, a line with its text, or a fault
pub data Row (F : Type 0) : Type 0 where
  Nothing : Row F
  Line : List ℕ → Row F
  Fault : F → Row F

-- the text of a line
abbrev pub text_of : {F : Type 0} → Row F → Option (List ℕ)
text_of Nothing = None
text_of (Line text) = Some text
text_of (Fault fault) = None

-- the fault
abbrev pub fault_of : {F : Type 0} → Row F → Option F
fault_of Nothing = None
fault_of (Line text) = None
fault_of (Fault fault) = Some fault

-- what `work_out` answers of a row, where `text` is then in the buffer
abbrev pub IsWorkedOut : {F : Type 0} → Row F → Result Selection (RowFault F) → List ℕ → Type 0
IsWorkedOut row (Ok Kept) text = row ≡ Line text
IsWorkedOut row (Ok Dropped) text = row ≡ Nothing
IsWorkedOut row (Err (fault.Eval x)) text = row ≡ Fault x
IsWorkedOut row (Err fault.Memory) text = ⊤
