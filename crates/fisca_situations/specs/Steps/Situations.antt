-- The steps of code behind `Situations`:
-- Situations: the members of entities and their inputs, or the first fault. Entities come first, then the inputs from top to bottom, then
-- their sharing.
use Rattle.std.specs.Prelude.{ℕ, map, Option, Result, Ok, Err}
use Rattle.fisca_inputs.specs.Inputs.{inputs_of}
use Rattle.fisca_inputs.specs.Rules.{rule_of}
use Rattle.fisca_inputs.specs.declared.fault.SituationFault.{SituationFault}
use Rattle.fisca_inputs.specs.declared.fault.SituationKind.{SituationKind}
use Rattle.fisca_inputs.specs.declared.fault.SituationKind.TheVariants as situation
use Rattle.fisca_members.specs.declared.fault.MembersKind.{MembersKind}
use Rattle.fisca_members.specs.declared.fault.MembersKind.TheVariants as members
use Rattle.fisca_members.specs.declared.fault.MembersFault.{MembersFault}
use Rattle.fisca_groups.specs.Lookup.{counts_of}
use Rattle.fisca_members.specs.Steps.Members.{members_in}
use Rattle.fisca_members.specs.Sections.{Input}
use Rattle.fisca_members.specs.Steps.Sections.{input_of, titles_of}
use Rattle.fisca_num.specs.Results.{and_then}
use Rattle.fisca_symbols.specs.Known.{tables as known}
use Rattle.fisca_symbols.specs.declared.tables.Tables.{Tables}
use Rattle.fisca_time.specs.Period.{Span}
use Rattle.fisca_yaml.specs.Node.{Node}
use Rattle.fisca_situations.specs.declared.reading.Reading.{Reading}
use Rattle.fisca_situations.specs.Steps.Reading.{inputs_given}
use Rattle.fisca_situations.specs.Situations.{Situation}

abbrev pub kind_of : MembersKind → SituationKind
kind_of members.UnknownEntity = situation.UnknownEntity
kind_of members.UnknownPerson = situation.UnknownPerson
kind_of members.PersonTwice = situation.PersonTwice
kind_of members.RoleFull = situation.RoleFull
kind_of members.BadValue = situation.BadValue
kind_of members.TooMany = situation.TooMany
kind_of members.Memory = situation.Memory

abbrev pub fault_of : MembersFault → SituationFault
fault_of f = record { line = f.line; kind = kind_of f.kind }

abbrev pub told : {X : Type 0} → Result X MembersFault → Result X SituationFault
told (Ok x) = Ok x
told (Err f) = Err (fault_of f)

-- of an input whose key stands on the line
unfoldable pub reading_in : Tables → Option Span → ℕ → Input → Result Reading SituationFault
reading_in c default line i =
    and_then (told (members_in (known c).entities line i)) (λ ms. and_then (inputs_given c default i) (λ gs. Ok (record { members = ms; given = gs })))

unfoldable pub reading_of : Tables → Option Span → ℕ → Node → Result Reading SituationFault
reading_of c default line n = and_then (told (input_of (titles_of (known c).entities) line n)) (reading_in c default line)

-- inputs are shared last
abbrev pub situation_by : Tables → Reading → Result Situation SituationFault
situation_by c r = and_then (inputs_of (map rule_of c.variables) (counts_of r.members) r.given) (λ es. Ok (record { members = r.members; inputs = es }))

abbrev pub situation_of : Tables → Option Span → ℕ → Node → Result Situation SituationFault
situation_of c default line n = and_then (reading_of c default line n) (situation_by c)
