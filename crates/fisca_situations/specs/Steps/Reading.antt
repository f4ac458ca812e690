-- The steps of code behind `Reading`:
-- The inputs of members, as they are given: from top to bottom, up to the first fault.
use Rattle.std.specs.Prelude.{ℕ, suc, List, [], ◌∷◌, Bool, true, ◌==◌, is_some, nat_lt, slice_get, if◌then◌else◌, Option, Some, None, option_map, Result, Ok, Err}
use Rattle.std.specs.Option.{unwrap_or}
use Rattle.fisca_inputs.specs.Faults.{at_line}
use Rattle.fisca_inputs.specs.Inputs.{and_given}
use Rattle.fisca_inputs.specs.Rules.{is_accepted, rule_of}
use Rattle.fisca_inputs.specs.declared.fault.SituationFault.{SituationFault}
use Rattle.fisca_inputs.specs.declared.fault.SituationKind.{SituationKind}
use Rattle.fisca_inputs.specs.declared.fault.SituationKind.TheVariants as kind
use Rattle.fisca_inputs.specs.declared.given.Given.{Given}
use Rattle.fisca_model.specs.declared.value.Value.{Value}
use Rattle.fisca_model.specs.Periods.{is_eternity, key_period}
use Rattle.fisca_members.specs.Faults.{entries_in}
use Rattle.fisca_members.specs.Steps.Groups.{role_named}
use Rattle.fisca_members.specs.Persons.{most_members}
use Rattle.fisca_members.specs.Sections.{Input, one_person, sections, Section}
use Rattle.fisca_num.specs.Results.{and_then}
use Rattle.fisca_symbols.specs.Known.{tables as known}
use Rattle.fisca_symbols.specs.declared.tables.Tables.{Tables}
use Rattle.fisca_symbols.specs.declared.variable.Variable.{Variable}
use Rattle.fisca_time.specs.Period.{Span, eternity}
use Rattle.fisca_time.specs.PeriodText.{period_of_text}
use Rattle.fisca_time.specs.declared.fault.TimeFault.{TimeFault}
use Rattle.fisca_model.specs.Tables.{Entity, Role, variable_named}
use Rattle.fisca_yaml.specs.Find.{begins_on}
use Rattle.fisca_yaml.specs.Node.{Node, null, scalar, list, map, Entries, no_entries, entry}
use Rattle.fisca_situations.specs.declared.said.Said.{Said}
use Rattle.fisca_situations.specs.declared.said.Said.TheVariants.{Input as input, Unused as unused, Unreadable as unreadable}
use Rattle.fisca_situations.specs.Values.{said}
use Rattle.fisca_situations.specs.Reading.{Place}

abbrev pub fault_at : {X : Type 0} → ℕ → SituationKind → Result X SituationFault
fault_at line k = Err (at_line line k)

-- One value

abbrev pub with_value : Place → List Given → ℕ → Span → Value → Result (List Given) SituationFault
with_value x gs line p w =
    and_given gs (record { variable = x.variable; member = x.member; period = key_period x.declared.definition_period p; value = w; line = line })

abbrev pub given_of : Place → Span → ℕ → Said → List Given → Node → Result (List Given) SituationFault
given_of x p line (input w) gs n = with_value x gs line p w
given_of x p line unused gs n = Ok gs
given_of x p line unreadable gs n = fault_at (unwrap_or (begins_on n) line) kind.BadValue

-- The period is judged before the value: it is one of the variable's definition periods, or a longer one that can be shared.
unfoldable pub value_given : Tables → Place → List Given → ℕ → Span → Node → Result (List Given) SituationFault
value_given c x gs line p n =
    if is_accepted (rule_of x.declared) p then given_of x p line (said (known c) x.declared.value_type n) gs n else fault_at line kind.PeriodMismatch

-- a value that stands at a period is told of the period's line
abbrev pub read_given : Tables → Place → List Given → ℕ → Node → Result Span TimeFault → Result (List Given) SituationFault
read_given c x gs line n (Ok p) = value_given c x gs line p n
read_given c x gs line n (Err e) = fault_at line kind.PeriodMismatch

-- nothing is no input
unfoldable pub dated_given : Tables → Place → List Given → List ℕ → ℕ → Node → Result (List Given) SituationFault
dated_given c x gs key line null = Ok gs
dated_given c x gs key line (scalar t q l) = read_given c x gs line (scalar t q l) (period_of_text key)
dated_given c x gs key line (list is) = read_given c x gs line (list is) (period_of_text key)
dated_given c x gs key line (map es) = read_given c x gs line (map es) (period_of_text key)

abbrev pub all_dated : Tables → Place → List Given → Entries → Result (List Given) SituationFault
all_dated c x gs no_entries = Ok gs
all_dated c x gs (entry key line n es) = and_then (dated_given c x gs key line n) (λ hs. all_dated c x hs es)

-- a value without a period is of the default one; an eternal variable needs none
abbrev pub at_default : Tables → Place → List Given → ℕ → Node → Option Span → Result (List Given) SituationFault
at_default c x gs line n None = if is_eternity x.declared.definition_period then value_given c x gs line eternity n else fault_at line kind.PeriodMismatch
at_default c x gs line n (Some p) = value_given c x gs line p n

-- Variables

-- what stands at a variable: nothing, a map from periods to values, or a value
unfoldable pub variable_given : Tables → Option Span → Place → List Given → ℕ → Node → Result (List Given) SituationFault
variable_given c default x gs line null = Ok gs
variable_given c default x gs line (scalar t q l) = at_default c x gs line (scalar t q l) default
variable_given c default x gs line (list is) = at_default c x gs line (list is) default
variable_given c default x gs line (map es) = all_dated c x gs es

-- A member has the variables of its entity. One person alone is the only member of its entity, and of each entity the only group is its own, so
-- that all variables may be given.
abbrev pub has_variable : Option ℕ → Variable → Bool
has_variable None x = true
has_variable (Some entity) x = x.entity == entity

abbrev pub variable_at : Tables → Option Span → Option ℕ → ℕ → List Given → ℕ → Node → ℕ → Option Variable → Result (List Given) SituationFault
variable_at c default entity member gs line n place None = fault_at line kind.UnknownVariable
variable_at c default entity member gs line n place (Some x) =
    if has_variable entity x then variable_given c default (record { variable = place; declared = x; member = member }) gs line n else fault_at line kind.UnknownVariable

abbrev pub variable_of : Tables → List ℕ → Option ℕ
variable_of c key = option_map (λ p. p.0) (variable_named (known c) key)

unfoldable pub named_given : Tables → Option Span → Option ℕ → ℕ → List Given → ℕ → Node → Option ℕ → Result (List Given) SituationFault
named_given c default entity member gs line n None = fault_at line kind.UnknownVariable
named_given c default entity member gs line n (Some place) = variable_at c default entity member gs line n place (slice_get c.variables place)

-- what is said of a member: roles, which are read before, and variables
unfoldable pub entry_given : Tables → Option Span → Option ℕ → ℕ → List Role → List Given → List ℕ → ℕ → Node → Result (List Given) SituationFault
entry_given c default entity member rs gs key line n =
    if is_some (role_named rs key) then Ok gs else named_given c default entity member gs line n (variable_of c key)

abbrev pub member_given : Tables → Option Span → Option ℕ → ℕ → List Role → List Given → Entries → Result (List Given) SituationFault
member_given c default entity member rs gs no_entries = Ok gs
member_given c default entity member rs gs (entry key line n es) =
    and_then (entry_given c default entity member rs gs key line n) (λ hs. member_given c default entity member rs hs es)

-- Members

-- members past the limit have no inputs; they are told of before
unfoldable pub member_below : Tables → Option Span → ℕ → List Role → ℕ → List Given → ℕ → Entries → Result (List Given) SituationFault
member_below c default entity rs member gs line es =
    if nat_lt member most_members then member_given c default (Some entity) member rs gs es else fault_at line kind.TooMany

abbrev pub members_given : Tables → Option Span → ℕ → List Role → ℕ → List Given → Entries → Result (List Given) SituationFault
members_given c default entity rs member gs no_entries = Ok gs
members_given c default entity rs member gs (entry name line n es) =
    and_then (member_below c default entity rs member gs line (entries_in n)) (λ hs. members_given c default entity rs (suc member) hs es)

unfoldable pub section_by : Tables → Option Span → List Given → Section → List Role → Result (List Given) SituationFault
section_by c default gs s rs =
    if s.named.is_plural then members_given c default s.named.entity rs 0 gs (entries_in s.value)
    else member_below c default s.named.entity rs 0 gs s.line (entries_in s.value)

abbrev pub section_of : Tables → Option Span → List Given → Section → Option Entity → Result (List Given) SituationFault
section_of c default gs s None = Ok gs
section_of c default gs s (Some e) = section_by c default gs s e.roles

unfoldable pub section_given : Tables → Option Span → List Given → Section → Result (List Given) SituationFault
section_given c default gs s = section_of c default gs s (slice_get (known c).entities s.named.entity)

abbrev pub sections_given : Tables → Option Span → List Given → List Section → Result (List Given) SituationFault
sections_given c default gs [] = Ok gs
sections_given c default gs (s ∷ ss) = and_then (section_given c default gs s) (λ hs. sections_given c default hs ss)

-- all inputs, as they are given
unfoldable pub inputs_given : Tables → Option Span → Input → Result (List Given) SituationFault
inputs_given c default (one_person es) = member_given c default None 0 [] [] es
inputs_given c default (sections ss) = sections_given c default [] ss
