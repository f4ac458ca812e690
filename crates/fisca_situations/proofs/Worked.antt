-- The definition of given inputs, worked out on small situations.
use Rattle.std.proofs.Common.{◌≡◌, ℕ, ◌*◌, List, [], ◌∷◌, map, codes, refl, lit<}
use Rattle.std.specs.Prelude.{ℤ, pos, negsuc, true, false, Option, Some, None, Result, Ok, Err}
use Rattle.fisca_situations.proofs.Country.{country}
use Rattle.fisca_situations.proofs.Literals.{two, five, seven, thirty, fifty, hundred, two_hundred, eight_hundred, twelve_hundred, wide, one_point, nothing_more, thirty_point, half_literal, least}
use Rattle.fisca_situations.proofs.Shown.{Shown, number, bool, member, shown, month, january}
use Rattle.fisca_inputs.specs.Faults.{at_line}
use Rattle.fisca_inputs.specs.declared.fault.SituationFault.{SituationFault}
use Rattle.fisca_inputs.specs.declared.fault.SituationKind.{SituationKind}
use Rattle.fisca_inputs.specs.declared.fault.SituationKind.TheVariants as kind
use Rattle.fisca_inputs.specs.declared.given.Given.{Given}
use Rattle.fisca_members.specs.Steps.Members.{members_in}
use Rattle.fisca_members.specs.Steps.Persons.{with_person}
use Rattle.fisca_time.specs.Period.{Span, eternity, months}
use Rattle.fisca_time.specs.declared.unit.Unit.TheVariants as unit
use Rattle.fisca_yaml.specs.Flow.{flow_value, series}
use Rattle.fisca_yaml.specs.Grouping.{document, block}
use Rattle.fisca_yaml.specs.Node.{Node}
use Rattle.fisca_groups.specs.declared.entity_members.EntityMembers.{EntityMembers}
use Rattle.fisca_model.specs.Groups.{Point, persons_at}
use Rattle.fisca_model.specs.Tables.{subrole_of, whole_role}
use Rattle.fisca_groups.specs.Grouped.{grouped}
use Rattle.fisca_situations.specs.Steps.Reading.{dated_given, entry_given, inputs_given, member_below, named_given, section_by, section_given, value_given, variable_given}
use Rattle.fisca_situations.specs.declared.reading.Reading.{Reading}
use Rattle.fisca_situations.specs.Steps.Situations.{reading_in, reading_of}

-- what is given: a variable, a member, a period, a value and a line
record Row : Type 0 where
  variable : ℕ
  member : ℕ
  period : Span
  value : Shown
  line : ℕ

abbrev row_of : Given → Row
row_of g = record { variable = g.variable; member = g.member; period = g.period; value = shown g.value; line = g.line }

abbrev rows : Result (List Given) SituationFault → Result (List Row) SituationFault
rows (Ok gs) = Ok (map row_of gs)
rows (Err f) = Err f

abbrev given_in : Result Reading SituationFault → Result (List Given) SituationFault
given_in (Ok r) = Ok r.given
given_in (Err f) = Err f

abbrev of_node : Option Span → Option Node → Option (Result (List Row) SituationFault)
of_node p None = None
of_node p (Some n) = Some (rows (given_in (reading_of country p 1 n)))

-- what a text says at a default period, or without one
abbrev read_at : Option Span → List ℕ → Option (Result (List Row) SituationFault)
read_at p text = of_node p (document text)

abbrev read : List ℕ → Option (Result (List Row) SituationFault)
read = read_at (Some january)

abbrev row : ℕ → ℕ → Span → Shown → ℕ → Row
row x m p w line = record { variable = x; member = m; period = p; value = w; line = line }

abbrev fault : ℕ → SituationKind → Option (Result (List Row) SituationFault)
fault line k = Some (Err (at_line line k))

-- One person

nothing : read (codes "") ≡ Some (Ok [])
unfolding document block flow_value series with_person value_given dated_given variable_given named_given entry_given member_below section_by section_given members_in inputs_given reading_in reading_of
nothing = refl

-- its own variables and those of its groups
of_one_person : read (codes "{age: 30, occupancy: owner}") ≡ Some (Ok (row 1 0 january (number (pos 30) 1) 1 ∷ row 3 0 january (member 1) 1 ∷ []))
unfolding document block flow_value series with_person value_given dated_given variable_given named_given entry_given member_below section_by section_given members_in inputs_given reading_in reading_of
of_one_person = rw thirty refl

dated : read (codes "{salary: {2016-11: 800, 2016-12: 50}, yearly_tax: {2017: 200}}") ≡ Some (Ok (row 0 0 (month 2016 11) (number (pos 800) 1) 1 ∷ row 0 0 (month 2016 12) (number (pos 50) 1) 1 ∷ row 4 0 (months unit.Year (12 * 2017) 1) (number (pos 200) 1) 1 ∷ []))
unfolding document block flow_value series with_person value_given dated_given variable_given named_given entry_given member_below section_by section_given members_in inputs_given reading_in reading_of
dated = rw (eight_hundred, fifty, two_hundred) refl

-- more than a definition period, where it can be shared
longer : read (codes "{salary: {2017: 1200, 2017-01: 100}}") ≡ Some (Ok (row 0 0 (months unit.Year (12 * 2017) 1) (number (pos 1200) 1) 1 ∷ row 0 0 january (number (pos 100) 1) 1 ∷ []))
unfolding document block flow_value series with_person value_given dated_given variable_given named_given entry_given member_below section_by section_given members_in inputs_given reading_in reading_of
longer = rw (twelve_hundred, hundred) refl

no_periods : read (codes "{salary: {}}") ≡ Some (Ok [])
unfolding document block flow_value series with_person value_given dated_given variable_given named_given entry_given member_below section_by section_given members_in inputs_given reading_in reading_of
no_periods = refl

-- Several members

of_each_person : read (codes "{persons: {Ann: {age: 30, salary: 50}, Bob: {age: 7}}}") ≡ Some (Ok (row 1 0 january (number (pos 30) 1) 1 ∷ row 0 0 january (number (pos 50) 1) 1 ∷ row 1 1 january (number (pos 7) 1) 1 ∷ []))
unfolding document block flow_value series with_person value_given dated_given variable_given named_given entry_given member_below section_by section_given members_in inputs_given reading_in reading_of
of_each_person = rw (thirty, fifty, seven) refl

-- in the order of the file, beside roles
as_they_are_written : read (codes "{households: {home: {parents: [Bob], occupancy: owner}, flat: {occupancy: tenant}}, persons: {Ann: {}, Bob: {age: 30}}}") ≡ Some (Ok (row 3 0 january (member 1) 1 ∷ row 3 1 january (member 0) 1 ∷ row 1 1 january (number (pos 30) 1) 1 ∷ []))
unfolding document block flow_value series with_person value_given dated_given variable_given named_given entry_given member_below section_by section_given members_in inputs_given reading_in reading_of
as_they_are_written = rw thirty refl

of_the_only_one : read (codes "{person: {age: 30}, household: {yearly_tax: {2017: 5}}}") ≡ Some (Ok (row 1 0 january (number (pos 30) 1) 1 ∷ row 4 0 (months unit.Year (12 * 2017) 1) (number (pos 5) 1) 1 ∷ []))
unfolding document block flow_value series with_person value_given dated_given variable_given named_given entry_given member_below section_by section_given members_in inputs_given reading_in reading_of
of_the_only_one = rw (thirty, five) refl

-- Nothing is no input: its variable is known, and its period is not read

nothing_given : read (codes "{salary: null, age: {foo: null, 2017-01: 30}}") ≡ Some (Ok (row 1 0 january (number (pos 30) 1) 1 ∷ []))
unfolding document block flow_value series with_person value_given dated_given variable_given named_given entry_given member_below section_by section_given members_in inputs_given reading_in reading_of
nothing_given = rw thirty refl

null_of_no_variable : read (codes "\nfoo:") ≡ fault 2 kind.UnknownVariable
unfolding document block flow_value series with_person value_given dated_given variable_given named_given entry_given member_below section_by section_given members_in inputs_given reading_in reading_of
null_of_no_variable = refl

-- Variables

unknown : read (codes "age: 30\nfoo: 5") ≡ fault 2 kind.UnknownVariable
unfolding document block flow_value series with_person value_given dated_given variable_given named_given entry_given member_below section_by section_given members_in inputs_given reading_in reading_of
unknown = rw thirty refl

of_another_entity : read (codes "persons:\n  Ann:\n    occupancy: owner") ≡ fault 3 kind.UnknownVariable
unfolding document block flow_value series with_person value_given dated_given variable_given named_given entry_given member_below section_by section_given members_in inputs_given reading_in reading_of
of_another_entity = refl

role_of_another_entity : read (codes "persons:\n  Ann:\n    parents: Ann") ≡ fault 3 kind.UnknownVariable
unfolding document block flow_value series with_person value_given dated_given variable_given named_given entry_given member_below section_by section_given members_in inputs_given reading_in reading_of
role_of_another_entity = refl

-- Periods

unreadable_period : read (codes "salary:\n  foo: 5") ≡ fault 2 kind.PeriodMismatch
unfolding document block flow_value series with_person value_given dated_given variable_given named_given entry_given member_below section_by section_given members_in inputs_given reading_in reading_of
unreadable_period = refl

-- the period comes before the value
too_long : read (codes "occupancy:\n  2017: castle") ≡ fault 2 kind.PeriodMismatch
unfolding document block flow_value series with_person value_given dated_given variable_given named_given entry_given member_below section_by section_given members_in inputs_given reading_in reading_of
too_long = refl

too_short : read (codes "{yearly_tax: 5}") ≡ fault 1 kind.PeriodMismatch
unfolding document block flow_value series with_person value_given dated_given variable_given named_given entry_given member_below section_by section_given members_in inputs_given reading_in reading_of
too_short = refl

months_for_a_year : read (codes "{yearly_tax: {\"month:2017-01:12\": 5}}") ≡ fault 1 kind.PeriodMismatch
unfolding document block flow_value series with_person value_given dated_given variable_given named_given entry_given member_below section_by section_given members_in inputs_given reading_in reading_of
months_for_a_year = refl

no_default : read_at None (codes "{salary: 5}") ≡ fault 1 kind.PeriodMismatch
unfolding document block flow_value series with_person value_given dated_given variable_given named_given entry_given member_below section_by section_given members_in inputs_given reading_in reading_of
no_default = refl

-- an eternal variable, and one with periods
needs_none : read_at None (codes "{height: 5, salary: {2017-01: 7}}") ≡ Some (Ok (row 6 0 eternity (number (pos 5) 1) 1 ∷ row 0 0 january (number (pos 7) 1) 1 ∷ []))
unfolding document block flow_value series with_person value_given dated_given variable_given named_given entry_given member_below section_by section_given members_in inputs_given reading_in reading_of
needs_none = rw (five, seven) refl

-- any period serves for an eternal variable
any_period : read (codes "{height: {2017: 5}}") ≡ Some (Ok (row 6 0 eternity (number (pos 5) 1) 1 ∷ []))
unfolding document block flow_value series with_person value_given dated_given variable_given named_given entry_given member_below section_by section_given members_in inputs_given reading_in reading_of
any_period = rw five refl

-- Values

of_int : read (codes "{age: 30.0}") ≡ Some (Ok (row 1 0 january (number (pos 30) 1) 1 ∷ []))
unfolding document block flow_value series with_person value_given dated_given variable_given named_given entry_given member_below section_by section_given members_in inputs_given reading_in reading_of
of_int = rw thirty_point refl

half_of_int : read (codes "{age: 0.5}") ≡ fault 1 kind.BadValue
unfolding document block flow_value series with_person value_given dated_given variable_given named_given entry_given member_below section_by section_given members_in inputs_given reading_in reading_of
half_of_int = rw half_literal refl

least_int : read (codes "{age: -2147483648}") ≡ Some (Ok (row 1 0 january (number (negsuc 2147483647) 1) 1 ∷ []))
unfolding document block flow_value series with_person value_given dated_given variable_given named_given entry_given member_below section_by section_given members_in inputs_given reading_in reading_of
least_int = rw least refl

beyond_int : read (codes "{age: 2147483648}") ≡ fault 1 kind.BadValue
unfolding document block flow_value series with_person value_given dated_given variable_given named_given entry_given member_below section_by section_given members_in inputs_given reading_in reading_of
beyond_int = rw wide refl

of_float : read (codes "{salary: 0.5}") ≡ Some (Ok (row 0 0 january (number (pos 1) 2) 1 ∷ []))
unfolding document block flow_value series with_person value_given dated_given variable_given named_given entry_given member_below section_by section_given members_in inputs_given reading_in reading_of
of_float = rw half_literal refl

text_of_float : read (codes "{salary: '5'}") ≡ fault 1 kind.BadValue
unfolding document block flow_value series with_person value_given dated_given variable_given named_given entry_given member_below section_by section_given members_in inputs_given reading_in reading_of
text_of_float = refl

-- a bool, 0 or 1, without quotes
of_bool : read (codes "{persons: {A: {insured: yes}, B: {insured: 1.0}, C: {insured: +0}}}") ≡ Some (Ok (row 2 0 january (bool true) 1 ∷ row 2 1 january (bool true) 1 ∷ row 2 2 january (bool false) 1 ∷ []))
unfolding document block flow_value series with_person value_given dated_given variable_given named_given entry_given member_below section_by section_given members_in inputs_given reading_in reading_of
of_bool = rw (one_point, nothing_more) refl

two_of_bool : read (codes "{insured: 2}") ≡ fault 1 kind.BadValue
unfolding document block flow_value series with_person value_given dated_given variable_given named_given entry_given member_below section_by section_given members_in inputs_given reading_in reading_of
two_of_bool = rw two refl

quoted_bool : read (codes "{insured: \"1\"}") ≡ fault 1 kind.BadValue
unfolding document block flow_value series with_person value_given dated_given variable_given named_given entry_given member_below section_by section_given members_in inputs_given reading_in reading_of
quoted_bool = refl

of_enum : read (codes "{occupancy: 'owner'}") ≡ Some (Ok (row 3 0 january (member 1) 1 ∷ []))
unfolding document block flow_value series with_person value_given dated_given variable_given named_given entry_given member_below section_by section_given members_in inputs_given reading_in reading_of
of_enum = refl

no_member : read (codes "{occupancy: castle}") ≡ fault 1 kind.BadValue
unfolding document block flow_value series with_person value_given dated_given variable_given named_given entry_given member_below section_by section_given members_in inputs_given reading_in reading_of
no_member = refl

-- days and texts are read, and give no input
of_date : read (codes "{born: 2000-01-31}") ≡ Some (Ok [])
unfolding document block flow_value series with_person value_given dated_given variable_given named_given entry_given member_below section_by section_given members_in inputs_given reading_in reading_of
of_date = refl

no_day : read (codes "{born: 2000-02-30}") ≡ fault 1 kind.BadValue
unfolding document block flow_value series with_person value_given dated_given variable_given named_given entry_given member_below section_by section_given members_in inputs_given reading_in reading_of
no_day = refl

of_text : read (codes "{nickname: 5}") ≡ Some (Ok [])
unfolding document block flow_value series with_person value_given dated_given variable_given named_given entry_given member_below section_by section_given members_in inputs_given reading_in reading_of
of_text = refl

period_of_a_text : read (codes "{nickname: {2017: Jo}}") ≡ fault 1 kind.PeriodMismatch
unfolding document block flow_value series with_person value_given dated_given variable_given named_given entry_given member_below section_by section_given members_in inputs_given reading_in reading_of
period_of_a_text = refl

list_of_text : read (codes "nickname:\n- Jo") ≡ fault 2 kind.BadValue
unfolding document block flow_value series with_person value_given dated_given variable_given named_given entry_given member_below section_by section_given members_in inputs_given reading_in reading_of
list_of_text = refl

no_items : read (codes "{salary: []}") ≡ fault 1 kind.BadValue
unfolding document block flow_value series with_person value_given dated_given variable_given named_given entry_given member_below section_by section_given members_in inputs_given reading_in reading_of
no_items = refl

map_of_map : read (codes "salary:\n  2017-01:\n    a: 1") ≡ fault 3 kind.BadValue
unfolding document block flow_value series with_person value_given dated_given variable_given named_given entry_given member_below section_by section_given members_in inputs_given reading_in reading_of
map_of_map = refl

-- Two inputs of one member for one variable and equal periods

-- told while they are read, before what stands below
twice : read (codes "salary:\n  2017-01: 5\n  \"month:2017-01\": 5\n  2017-02: foo") ≡ fault 3 kind.InconsistentInput
unfolding document block flow_value series with_person value_given dated_given variable_given named_given entry_given member_below section_by section_given members_in inputs_given reading_in reading_of
twice = rw five refl

not_equal : read (codes "{salary: {2017: 5, \"month:2017-01:12\": 7}}") ≡ Some (Ok (row 0 0 (months unit.Year (12 * 2017) 1) (number (pos 5) 1) 1 ∷ row 0 0 (months unit.Month (12 * 2017) 12) (number (pos 7) 1) 1 ∷ []))
unfolding document block flow_value series with_person value_given dated_given variable_given named_given entry_given member_below section_by section_given members_in inputs_given reading_in reading_of
not_equal = rw (five, seven) refl

twice_in_eternity : read (codes "height:\n  2017: 5\n  2018: 7") ≡ fault 3 kind.InconsistentInput
unfolding document block flow_value series with_person value_given dated_given variable_given named_given entry_given member_below section_by section_given members_in inputs_given reading_in reading_of
twice_in_eternity = rw (five, seven) refl

-- Entities come before all inputs

entities_first : read (codes "persons: {Ann: {foo: 5}}\nhousehold:\n  parents: Zoe") ≡ fault 3 kind.UnknownPerson
unfolding document block flow_value series with_person value_given dated_given variable_given named_given entry_given member_below section_by section_given members_in inputs_given reading_in reading_of
entities_first = refl

-- How formulas see the groups: Ann and Cid are parents of one household with Bob as a child, and Dan has one of his own.

abbrev four : List EntityMembers
four = record {
  names = codes "home" ∷ codes "Dan" ∷ [];
  homes =
      Some (record { group = 0; role = subrole_of 0 0 }) ∷ Some (record { group = 0; role = whole_role 1 }) ∷ Some (record { group = 0; role = subrole_of 0 1 })
      ∷ Some (record { group = 1; role = subrole_of 0 0 }) ∷ [];
} ∷ record { names = codes "Ann" ∷ codes "Bob" ∷ codes "Cid" ∷ codes "Dan" ∷ []; homes = [] } ∷ []

abbrev at_home : Point
at_home = record { entity = 0; member = 0; person = None; period = january }

of_home : (grouped four).persons 0 0 ≡ 0 ∷ 1 ∷ 2 ∷ []
of_home = refl

of_dan : ((grouped four).group_of 0 3 ≡ 1) × ((grouped four).role_of 0 3 ≡ subrole_of 0 0)
of_dan = (refl, refl)

parents_at_home : persons_at (grouped four) at_home (Some (whole_role 0)) ≡ 0 ∷ 2 ∷ []
parents_at_home = refl

second_parent : persons_at (grouped four) at_home (Some (subrole_of 0 1)) ≡ 2 ∷ []
second_parent = refl
