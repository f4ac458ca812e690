-- The steps of code behind `Faults`:
-- Faults of an input's members, and the lines of what has a wrong shape.
use Rattle.std.specs.Prelude.{ℕ, Result, Ok, Err}
use Rattle.std.specs.Option.{unwrap_or}
use Rattle.fisca_yaml.specs.Find.{begins_on}
use Rattle.fisca_yaml.specs.Node.{Node, null, scalar, list, map, Entries}
use Rattle.fisca_members.specs.declared.fault.MembersKind.{MembersKind}
use Rattle.fisca_members.specs.declared.fault.MembersKind.TheVariants as kind
use Rattle.fisca_members.specs.declared.fault.MembersFault.{MembersFault}

abbrev pub fault_at : {X : Type 0} → ℕ → MembersKind → Result X MembersFault
fault_at line k = Err (record { line = line; kind = k })

-- what has a wrong shape is told of the line on which it begins; nothing, and a list or a map without any, of the line of its key
abbrev pub bad_value : {X : Type 0} → ℕ → Node → Result X MembersFault
bad_value line n = fault_at (unwrap_or (begins_on n) line) kind.BadValue

-- the entries of a map
abbrev pub entries_at : ℕ → Node → Result Entries MembersFault
entries_at line null = bad_value line null
entries_at line (scalar t q l) = bad_value line (scalar t q l)
entries_at line (list is) = bad_value line (list is)
entries_at line (map es) = Ok es
