-- The steps of code behind `Reading`:
-- The expected values of a test, as they are written: from top to bottom, up to the first fault.
use Rattle.std.specs.Prelude.{ℕ, suc, List, [], ◌∷◌, ◌++◌, ◌==◌, is_some, slice_get, if◌then◌else◌, Option, Some, None, option_map, Result, Ok}
use Rattle.std.specs.Str.{bytes_eq}
use Rattle.fisca_columns.specs.Steps.Columns.{period_at}
use Rattle.fisca_model.specs.declared.value.Value.{Value}
use Rattle.fisca_members.specs.Steps.Groups.{role_named}
use Rattle.fisca_groups.specs.Lookup.{count_at}
use Rattle.fisca_members.specs.Sections.{Input, one_person, sections, Section}
use Rattle.fisca_members.specs.Steps.Sections.{input_of, titles_of}
use Rattle.fisca_groups.specs.declared.entity_members.EntityMembers.{EntityMembers}
use Rattle.fisca_members.specs.declared.titles.Titles.{Titles}
use Rattle.fisca_num.specs.Results.{and_then}
use Rattle.fisca_situations.specs.Values.{said}
use Rattle.fisca_situations.specs.declared.said.Said.{Said}
use Rattle.fisca_situations.specs.declared.said.Said.TheVariants.{Input as input, Unused as unused, Unreadable as unreadable}
use Rattle.fisca_symbols.specs.Known.{tables as known}
use Rattle.fisca_symbols.specs.KnownVariables.{value_type}
use Rattle.fisca_symbols.specs.declared.tables.Tables.{Tables}
use Rattle.fisca_symbols.specs.declared.variable.DeclaredType.{DeclaredType}
use Rattle.fisca_symbols.specs.declared.variable.DeclaredType.TheVariants as type
use Rattle.fisca_symbols.specs.declared.variable.Variable.{Variable}
use Rattle.fisca_time.specs.Period.{Span}
use Rattle.fisca_model.specs.Tables.{Entity, Role, place_in, variable_named}
use Rattle.fisca_yaml.specs.Node.{Node, null, scalar, list, map, Items, no_items, item, Entries, no_entries, entry}
use Rattle.fisca_expected.specs.declared.fault.OutputFault.{OutputFault}
use Rattle.fisca_expected.specs.declared.member_scope.MemberScope.{MemberScope}
use Rattle.fisca_expected.specs.declared.member_scope.MemberScope.TheVariants.{All, Member}
use Rattle.fisca_expected.specs.declared.whom.ExpectedMembers.{ExpectedMembers}
use Rattle.fisca_expected.specs.declared.whom.ExpectedMembers.TheVariants.{Each, One}
use Rattle.fisca_expected.specs.Steps.Faults.{bad, bad_at, told}
use Rattle.fisca_expected.specs.Outputs.{Output, Subject, output, of_each}
use Rattle.fisca_expected.specs.Reading.{count_of}

-- One value

-- values are read as inputs are; of a variable of whole numbers any number may be expected
abbrev pub expected_type : DeclaredType → DeclaredType
expected_type type.Float = type.Float
expected_type type.Int = type.Float
expected_type type.Bool = type.Bool
expected_type type.Date = type.Date
expected_type type.Text = type.Text
expected_type (type.Enum e) = type.Enum e

-- nothing, and what is not of the variable's type, is no value
abbrev pub value_by : ℕ → Node → Said → Result Value OutputFault
value_by line n (input v) = Ok v
value_by line n unused = bad line n
value_by line n unreadable = bad line n

unfoldable pub value_in : Tables → Subject → ℕ → Node → Result Value OutputFault
value_in c x line n = value_by line n (said (known c) (expected_type x.declared.value_type) n)

-- Values at a period

-- a scalar is expected of each member
abbrev pub scalar_read : Tables → Subject → List Output → ℕ → Span → Node → Result (List Output) OutputFault
scalar_read c x os line p n = and_then (value_in c x line n) (λ v. Ok (os ++ of_each x p v))

-- the items of a list are expected of the members from this one on
abbrev pub items_read : Tables → Subject → Span → ℕ → List Output → Items → Result (List Output) OutputFault
items_read c x p member os no_items = Ok os
items_read c x p member os (item line n is) =
    and_then (value_in c x line n) (λ v. items_read c x p (suc member) (os ++ output x p v member ∷ []) is)

-- a list has one value for each of all members, and says nothing of one
abbrev pub list_read : Tables → Subject → List Output → ℕ → Span → Items → ExpectedMembers → Result (List Output) OutputFault
list_read c x os line p is (Each count) = if count_of is == count then items_read c x p 0 os is else bad line (list is)
list_read c x os line p is (One member) = bad line (list is)

unfoldable pub values_read : Tables → Subject → List Output → ℕ → Span → Node → Result (List Output) OutputFault
values_read c x os line p null = scalar_read c x os line p null
values_read c x os line p (scalar t q l) = scalar_read c x os line p (scalar t q l)
values_read c x os line p (list is) = list_read c x os line p is x.whom
values_read c x os line p (map es) = scalar_read c x os line p (map es)

-- The period is judged before the values: it is read, and the variable can be asked for there. Else its key is told, or that of the variable
-- where it is the default one.
abbrev pub at_period : Tables → Subject → List Output → ℕ → Node → Option Span → Result (List Output) OutputFault
at_period c x os line n None = bad_at line
at_period c x os line n (Some p) = values_read c x os line p n

unfoldable pub dated_read : Tables → Subject → List Output → List ℕ → ℕ → Node → Result (List Output) OutputFault
dated_read c x os key line n = at_period c x os line n (period_at x.declared.definition_period None (Some key))

abbrev pub all_dated : Tables → Subject → List Output → Entries → Result (List Output) OutputFault
all_dated c x os no_entries = Ok os
all_dated c x os (entry key line n es) = and_then (dated_read c x os key line n) (λ qs. all_dated c x qs es)

-- values of the default period, or a map from periods to values
unfoldable pub variable_read : Tables → Option Span → Subject → List Output → ℕ → Node → Result (List Output) OutputFault
variable_read c default x os line null = at_period c x os line null (period_at x.declared.definition_period default None)
variable_read c default x os line (scalar t q l) = at_period c x os line (scalar t q l) (period_at x.declared.definition_period default None)
variable_read c default x os line (list is) = at_period c x os line (list is) (period_at x.declared.definition_period default None)
variable_read c default x os line (map es) = all_dated c x os es

-- Variables

-- Where no entity is named all members of a variable are meant, whatever entity has it, and else one member of an entity that has it.
abbrev pub whom_of : List EntityMembers → MemberScope → Variable → Option ExpectedMembers
whom_of ms All x = Some (Each (count_at ms x.entity))
whom_of ms (Member entity member) x = if x.entity == entity then Some (One member) else None

-- nothing is expected of days and texts
abbrev pub whom_if_usable : List EntityMembers → MemberScope → Variable → Option ExpectedMembers
whom_if_usable ms scope x = if is_some (value_type x.value_type) then whom_of ms scope x else None

abbrev pub subject_read : Tables → Option Span → List Output → ℕ → Node → ℕ → Variable → Option ExpectedMembers → Result (List Output) OutputFault
subject_read c default os line n place x None = bad_at line
subject_read c default os line n place x (Some whom) = variable_read c default (record { variable = place; declared = x; whom = whom }) os line n

abbrev pub variable_at : Tables → List EntityMembers → Option Span → MemberScope → List Output → ℕ → Node → ℕ → Option Variable → Result (List Output) OutputFault
variable_at c ms default scope os line n place None = bad_at line
variable_at c ms default scope os line n place (Some x) = subject_read c default os line n place x (whom_if_usable ms scope x)

unfoldable pub named_read : Tables → List EntityMembers → Option Span → MemberScope → List Output → ℕ → Node → Option ℕ → Result (List Output) OutputFault
named_read c ms default scope os line n None = bad_at line
named_read c ms default scope os line n (Some place) = variable_at c ms default scope os line n place (slice_get c.variables place)

abbrev pub place_of : Tables → List ℕ → Option ℕ
place_of c key = option_map (λ p. p.0) (variable_named (known c) key)

-- a key names a variable; a role of the entity is none
unfoldable pub entry_read : Tables → List EntityMembers → Option Span → MemberScope → List Role → List Output → List ℕ → ℕ → Node → Result (List Output) OutputFault
entry_read c ms default scope rs os key line n =
    if is_some (role_named rs key) then bad_at line else named_read c ms default scope os line n (place_of c key)

abbrev pub entries_read : Tables → List EntityMembers → Option Span → MemberScope → List Role → List Output → Entries → Result (List Output) OutputFault
entries_read c ms default scope rs os no_entries = Ok os
entries_read c ms default scope rs os (entry key line n es) =
    and_then (entry_read c ms default scope rs os key line n) (λ qs. entries_read c ms default scope rs qs es)

-- Members

abbrev pub names_of : Option EntityMembers → List (List ℕ)
names_of None = []
names_of (Some k) = k.names

-- the first member of this name
abbrev pub member_named : List EntityMembers → ℕ → List ℕ → Option ℕ
member_named ms entity name = place_in (λ k. bytes_eq k name) (names_of (slice_get ms entity))

-- a map of variables
abbrev pub map_read : Tables → List EntityMembers → Option Span → MemberScope → List Role → List Output → ℕ → Node → Result (List Output) OutputFault
map_read c ms default scope rs os line null = bad line null
map_read c ms default scope rs os line (scalar t q l) = bad line (scalar t q l)
map_read c ms default scope rs os line (list is) = bad line (list is)
map_read c ms default scope rs os line (map es) = entries_read c ms default scope rs os es

unfoldable pub member_read : Tables → List EntityMembers → Option Span → ℕ → List Role → List Output → ℕ → Node → Option ℕ → Result (List Output) OutputFault
member_read c ms default entity rs os line n None = bad_at line
member_read c ms default entity rs os line n (Some member) = map_read c ms default (Member entity member) rs os line n

-- each name is one of a member
abbrev pub members_read : Tables → List EntityMembers → Option Span → ℕ → List Role → List Output → Entries → Result (List Output) OutputFault
members_read c ms default entity rs os no_entries = Ok os
members_read c ms default entity rs os (entry name line n es) =
    and_then (member_read c ms default entity rs os line n (member_named ms entity name)) (λ qs. members_read c ms default entity rs qs es)

abbrev pub all_members : Tables → List EntityMembers → Option Span → ℕ → List Role → List Output → ℕ → Node → Result (List Output) OutputFault
all_members c ms default entity rs os line null = bad line null
all_members c ms default entity rs os line (scalar t q l) = bad line (scalar t q l)
all_members c ms default entity rs os line (list is) = bad line (list is)
all_members c ms default entity rs os line (map es) = members_read c ms default entity rs os es

-- there is just one
abbrev pub only_member : List EntityMembers → ℕ → Option ℕ
only_member ms entity = if count_at ms entity == 1 then Some 0 else None

unfoldable pub section_by : Tables → List EntityMembers → Option Span → List Output → Section → List Role → Result (List Output) OutputFault
section_by c ms default os s rs =
    if s.named.is_plural then all_members c ms default s.named.entity rs os s.line s.value
    else member_read c ms default s.named.entity rs os s.line s.value (only_member ms s.named.entity)

abbrev pub section_of : Tables → List EntityMembers → Option Span → List Output → Section → Option Entity → Result (List Output) OutputFault
section_of c ms default os s None = Ok os
section_of c ms default os s (Some e) = section_by c ms default os s e.roles

unfoldable pub section_read : Tables → List EntityMembers → Option Span → List Output → Section → Result (List Output) OutputFault
section_read c ms default os s = section_of c ms default os s (slice_get (known c).entities s.named.entity)

abbrev pub sections_read : Tables → List EntityMembers → Option Span → List Output → List Section → Result (List Output) OutputFault
sections_read c ms default os [] = Ok os
sections_read c ms default os (s ∷ ss) = and_then (section_read c ms default os s) (λ qs. sections_read c ms default qs ss)

-- Outputs

-- keys name entities as in an input; nothing is no output
abbrev pub form_of : Titles → ℕ → Node → Result Input OutputFault
form_of ts line null = bad line null
form_of ts line (scalar t q l) = told (input_of ts line (scalar t q l))
form_of ts line (list is) = told (input_of ts line (list is))
form_of ts line (map es) = told (input_of ts line (map es))

-- the variables of all members, or what is said of members of entities
unfoldable pub outputs_in : Tables → List EntityMembers → Option Span → Input → Result (List Output) OutputFault
outputs_in c ms default (one_person es) = entries_read c ms default All [] [] es
outputs_in c ms default (sections ss) = sections_read c ms default [] ss

-- of outputs whose key stands on the line, with the members that there are
unfoldable pub outputs_of : Tables → List EntityMembers → Option Span → ℕ → Node → Result (List Output) OutputFault
outputs_of c ms default line n = and_then (form_of (titles_of (known c).entities) line n) (outputs_in c ms default)
