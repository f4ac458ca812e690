-- What a run answers, and what it has written then.
use Rattle.std.specs.Prelude.{◌≡◌, ℕ, ◌<◌, ◌++◌, Bool, true, false, List, take, length, Contains, Option, Result, Ok, Err}
use Rattle.std.specs.List.{flat_map}
use Rattle.std.specs.Io.KnownBytes.{Appends, Keeps}
use Rattle.fisca_writer.specs.Row.{Row, Nothing, Line, Fault}
use Rattle.fisca_writer.specs.Continued.{lines_before, IsResumable}
use Rattle.fisca_writer.specs.declared.rows.Selection.{Selection}
use Rattle.fisca_writer.specs.declared.rows.Selection.TheVariants.{Kept, Dropped}
use Rattle.fisca_writer.specs.Lines.{End, AtEnd, MoreFrom, FaultAt}
use Rattle.fisca_writer.specs.Ranges.{IsBeyond, IsInside, range_end, range_lines}
use Rattle.fisca_writer.specs.declared.limit.Limit.{Limit}
use Rattle.fisca_writer.specs.declared.fault.RunEnd.{RunEnd}
use Rattle.fisca_writer.specs.declared.fault.RunEnd.TheVariants as answer
use Rattle.fisca_writer.specs.declared.fault.RunFault.{RunFault}
use Rattle.fisca_writer.specs.declared.fault.RunFault.TheVariants as fault

-- the texts of lines in a row
abbrev pub texts : List (ℕ × List ℕ) → List ℕ
texts = flat_map (λ line. line.1)

-- `part` is the beginning of the text, and not all of it
pub record IsProperPrefix (part text : List ℕ) : Type 0 where
  pub beginning : part ≡ take (length part) text
  pub shorter : length part < length text

-- a sink that held `old` then holds a beginning of the text, and not all of it
abbrev pub AppendsPart : List ℕ → Option (List ℕ) → Option (List ℕ) → Type 0
AppendsPart text old new = (part : List ℕ) × IsProperPrefix part text × Appends old new part

-- the end that an answer tells
abbrev pub told_end : {F : Type 0} → RunEnd → End F
told_end answer.End = AtEnd
told_end (answer.More position) = MoreFrom position

-- what is written of these lines where the sink failed at a position: the lines before it, and a proper prefix of the line there
pub record IsBrokenOff (position : ℕ) (all : List (ℕ × List ℕ)) (old new : Option (List ℕ)) : Type 0 where
  pub text : List ℕ
  pub part : List ℕ
  pub there : Contains all (position, text)
  pub prefix : IsProperPrefix part text
  pub written : Appends old new (texts (lines_before position all) ++ part)

-- what a run answers, where a sink held `old` and then holds `new`. It ends only where the grid has its start and its stop
abbrev pub IsRun : {F : Type 0} → (ℕ → Row F) → ℕ → ℕ → Limit → Option (List ℕ) → Option (List ℕ) → Result RunEnd (RunFault F) → Type 0
IsRun row size from limit old new (Ok end) = IsInside size from limit × (range_end row size from limit ≡ told_end end) × Appends old new (texts (range_lines row size from limit))
IsRun row size from limit old new (Err fault.BadPosition) = IsBeyond size from limit × Keeps old new
IsRun row size from limit old new (Err (fault.Eval position x)) =
    IsInside size from limit × (range_end row size from limit ≡ FaultAt position x) × Appends old new (texts (range_lines row size from limit))
IsRun row size from limit old new (Err (fault.Write position)) = IsBrokenOff position (range_lines row size from limit) old new
IsRun row size from limit old new (Err (fault.Memory position)) = let before = lines_before position (range_lines row size from limit) in
    IsResumable row size from limit before position × Appends old new (texts before)

-- the answer is that the sink failed
abbrev pub is_write : {F X : Type 0} → Result X (RunFault F) → Bool
is_write (Ok x) = false
is_write (Err fault.BadPosition) = false
is_write (Err (fault.Eval position x)) = false
is_write (Err (fault.Write position)) = true
is_write (Err (fault.Memory position)) = false

-- what the handing over of one row answers, and what is written then
abbrev pub IsRowWritten : {F : Type 0} → Row F → ℕ → Option (List ℕ) → Option (List ℕ) → Result Selection (RunFault F) → Type 0
IsRowWritten row position old new (Ok Kept) = (text : List ℕ) × (row ≡ Line text) × Appends old new text
IsRowWritten row position old new (Ok Dropped) = (row ≡ Nothing) × Keeps old new
IsRowWritten row position old new (Err fault.BadPosition) = ⊥
IsRowWritten row position old new (Err (fault.Eval there x)) = (there ≡ position) × (row ≡ Fault x) × Keeps old new
IsRowWritten row position old new (Err (fault.Write there)) = (there ≡ position) × ((text : List ℕ) × (part : List ℕ) × (row ≡ Line text) × IsProperPrefix part text × Appends old new part)
IsRowWritten row position old new (Err (fault.Memory there)) = (there ≡ position) × Keeps old new
