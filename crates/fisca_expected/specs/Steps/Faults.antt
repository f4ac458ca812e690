-- The steps of code behind `Faults`:
-- Why expected values can't be read: their plain names and numbers, and the fault of a line.
use Rattle.std.specs.Prelude.{ℕ, Result, Ok, Err}
use Rattle.std.specs.Option.{unwrap_or}
use Rattle.fisca_members.specs.declared.fault.MembersKind.{MembersKind}
use Rattle.fisca_members.specs.declared.fault.MembersKind.TheVariants as members
use Rattle.fisca_members.specs.declared.fault.MembersFault.{MembersFault}
use Rattle.fisca_yaml.specs.Find.{begins_on}
use Rattle.fisca_yaml.specs.Node.{Node}
use Rattle.fisca_expected.specs.declared.fault.OutputFault.{OutputFault}
use Rattle.fisca_expected.specs.declared.fault.OutputFault.TheVariants.{BadOutput, Memory}

abbrev pub bad_at : {X : Type 0} → ℕ → Result X OutputFault
bad_at line = Err (BadOutput line)

-- what can't be read is told of the line on which it begins; nothing, and a list or a map without any, of this one
abbrev pub bad : {X : Type 0} → ℕ → Node → Result X OutputFault
bad line n = bad_at (unwrap_or (begins_on n) line)

-- a fault of the keys that name entities
abbrev pub fault_by : ℕ → MembersKind → OutputFault
fault_by line members.Memory = Memory
fault_by line _ = BadOutput line

abbrev pub fault_of : MembersFault → OutputFault
fault_of f = fault_by f.line f.kind

abbrev pub told : {X : Type 0} → Result X MembersFault → Result X OutputFault
told (Ok x) = Ok x
told (Err f) = Err (fault_of f)
