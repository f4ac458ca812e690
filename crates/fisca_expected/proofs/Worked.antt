-- The definition of expected values, worked out on small tests.
use Rattle.std.proofs.Common.{◌≡◌, ℕ, ◌*◌, List, [], ◌∷◌, map, codes, refl, lit<}
use Rattle.std.specs.Prelude.{ℤ, pos, true, false, Option, Some, None, Result, Ok, Err}
use Rattle.fisca_situations.proofs.Country.{country}
use Rattle.fisca_situations.proofs.Literals.{five, seven, hundred, two_hundred, half_literal}
use Rattle.fisca_situations.proofs.Shown.{Shown, number, bool, member, shown, month, january}
use Rattle.fisca_groups.specs.declared.entity_members.EntityMembers.{EntityMembers}
use Rattle.fisca_num.specs.Literal.{number_of_literal, number_of_parts}
use Rattle.fisca_num.specs.declared.faults.NumFault.TheVariants as number_fault
use Rattle.fisca_time.specs.Period.{Span, eternity, months}
use Rattle.fisca_time.specs.declared.unit.Unit.TheVariants as unit
use Rattle.fisca_yaml.specs.Flow.{flow_value, series}
use Rattle.fisca_yaml.specs.Grouping.{document, block}
use Rattle.fisca_yaml.specs.Node.{Node}
use Rattle.fisca_expected.specs.Steps.Faults.{bad_at}
use Rattle.fisca_expected.specs.Outputs.{Output}
use Rattle.fisca_expected.specs.Steps.Reading.{dated_read, entry_read, member_read, named_read, outputs_in, outputs_of, section_by, section_read, value_in, values_read, variable_read}
use Rattle.fisca_expected.specs.declared.fault.OutputFault.{OutputFault}

-- two persons of one name and a third, who live together

abbrev people : List EntityMembers
people = record { names = codes "home" ∷ []; homes = [] } ∷ record { names = codes "Ann" ∷ codes "Bob" ∷ codes "Ann" ∷ []; homes = [] } ∷ []

-- one person, of a group of its own
abbrev alone : List EntityMembers
alone = record { names = codes "person" ∷ []; homes = [] } ∷ record { names = codes "person" ∷ []; homes = [] } ∷ []

-- what is expected: of a variable, of a member, at a period, which value
record Row : Type 0 where
  variable : ℕ
  member : ℕ
  period : Span
  value : Shown

abbrev row_of : Output → Row
row_of o = record { variable = o.0.variable; member = o.0.member; period = o.0.period; value = shown o.1 }

abbrev rows : Result (List Output) OutputFault → Result (List Row) OutputFault
rows (Ok os) = Ok (map row_of os)
rows (Err f) = Err f

-- the key `output` stands on the ninth line
abbrev of_node : List EntityMembers → Option Span → Option Node → Option (Result (List Row) OutputFault)
of_node ms p None = None
of_node ms p (Some n) = Some (rows (outputs_of country ms p 9 n))

-- what is expected of members at a default period, or without one
abbrev read_at : List EntityMembers → Option Span → List ℕ → Option (Result (List Row) OutputFault)
read_at ms p text = of_node ms p (document text)

abbrev read : List ℕ → Option (Result (List Row) OutputFault)
read = read_at alone (Some january)

abbrev read_of_people : List ℕ → Option (Result (List Row) OutputFault)
read_of_people = read_at people (Some january)

abbrev row : ℕ → ℕ → Span → Shown → Row
row x m p w = record { variable = x; member = m; period = p; value = w }

abbrev bad : ℕ → Option (Result (List Row) OutputFault)
bad line = Some (bad_at line)

-- Words that are no numbers

foo : number_of_literal (codes "foo") ≡ Err number_fault.NotANumber
unfolding number_of_literal number_of_parts
foo = refl

true_word : number_of_literal (codes "true") ≡ Err number_fault.NotANumber
unfolding number_of_literal number_of_parts
true_word = refl

-- Variables of all members

scalar_of_one : read (codes "salary: 100") ≡ Some (Ok (row 0 0 january (number (pos 100) 1) ∷ []))
unfolding document block flow_value series value_in values_read dated_read variable_read named_read entry_read member_read section_by section_read outputs_in outputs_of
scalar_of_one = rw hundred refl

scalar_of_each : read_of_people (codes "salary: 100") ≡ Some (Ok (row 0 0 january (number (pos 100) 1) ∷ row 0 1 january (number (pos 100) 1) ∷ row 0 2 january (number (pos 100) 1) ∷ []))
unfolding document block flow_value series value_in values_read dated_read variable_read named_read entry_read member_read section_by section_read outputs_in outputs_of
scalar_of_each = rw hundred refl

list_of_each : read_of_people (codes "salary: [5, 7, 0.5]") ≡ Some (Ok (row 0 0 january (number (pos 5) 1) ∷ row 0 1 january (number (pos 7) 1) ∷ row 0 2 january (number (pos 1) 2) ∷ []))
unfolding document block flow_value series value_in values_read dated_read variable_read named_read entry_read member_read section_by section_read outputs_in outputs_of
list_of_each = rw (five, seven, half_literal) refl

of_their_only_group : read_of_people (codes "{occupancy: owner, salary: [5, 7, 5]}") ≡ Some (Ok (row 3 0 january (member 1) ∷ row 0 0 january (number (pos 5) 1) ∷ row 0 1 january (number (pos 7) 1) ∷ row 0 2 january (number (pos 5) 1) ∷ []))
unfolding document block flow_value series value_in values_read dated_read variable_read named_read entry_read member_read section_by section_read outputs_in outputs_of
of_their_only_group = rw (five, seven) refl

dated : read (codes "{salary: {2016-11: 5, 2016-12: [7]}, yearly_tax: {2017: 200}}") ≡ Some (Ok (row 0 0 (month 2016 11) (number (pos 5) 1) ∷ row 0 0 (month 2016 12) (number (pos 7) 1) ∷ row 4 0 (months unit.Year (12 * 2017) 1) (number (pos 200) 1) ∷ []))
unfolding document block flow_value series value_in values_read dated_read variable_read named_read entry_read member_read section_by section_read outputs_in outputs_of
dated = rw (five, seven, two_hundred) refl

-- two values may be expected of one key
same_key_twice : read (codes "{salary: {2017-01: 5, \"month:2017-01\": 7}}") ≡ Some (Ok (row 0 0 january (number (pos 5) 1) ∷ row 0 0 january (number (pos 7) 1) ∷ []))
unfolding document block flow_value series value_in values_read dated_read variable_read named_read entry_read member_read section_by section_read outputs_in outputs_of
same_key_twice = rw (five, seven) refl

nothing_expected : read (codes "{}") ≡ Some (Ok [])
unfolding document block flow_value series value_in values_read dated_read variable_read named_read entry_read member_read section_by section_read outputs_in outputs_of
nothing_expected = refl

no_periods : read (codes "{salary: {}}") ≡ Some (Ok [])
unfolding document block flow_value series value_in values_read dated_read variable_read named_read entry_read member_read section_by section_read outputs_in outputs_of
no_periods = refl

-- Values are read as inputs are

-- any number is expected of a variable of whole numbers
fraction_of_an_int : read (codes "age: 0.5") ≡ Some (Ok (row 1 0 january (number (pos 1) 2) ∷ []))
unfolding document block flow_value series value_in values_read dated_read variable_read named_read entry_read member_read section_by section_read outputs_in outputs_of
fraction_of_an_int = rw half_literal refl

bools : read (codes "{insured: {2017-01: yes, 2017-02: false}}") ≡ Some (Ok (row 2 0 january (bool true) ∷ row 2 0 (month 2017 2) (bool false) ∷ []))
unfolding document block flow_value series value_in values_read dated_read variable_read named_read entry_read member_read section_by section_read outputs_in outputs_of
bools = refl

member_in_quotes : read (codes "occupancy: \"owner\"") ≡ Some (Ok (row 3 0 january (member 1) ∷ []))
unfolding document block flow_value series value_in values_read dated_read variable_read named_read entry_read member_read section_by section_read outputs_in outputs_of
member_in_quotes = refl

number_in_quotes : read (codes "salary: \"5\"") ≡ bad 1
unfolding document block flow_value series value_in values_read dated_read variable_read named_read entry_read member_read section_by section_read outputs_in outputs_of
number_in_quotes = refl

no_such_member : read (codes "occupancy: castle") ≡ bad 1
unfolding document block flow_value series value_in values_read dated_read variable_read named_read entry_read member_read section_by section_read outputs_in outputs_of
no_such_member = refl

bool_for_a_number : read (codes "salary: true") ≡ bad 1
unfolding document block flow_value series value_in values_read dated_read variable_read named_read entry_read member_read section_by section_read outputs_in outputs_of
bool_for_a_number = rw true_word refl

value_on_its_line : read (codes "salary:\n  2017-01: 5\n  2017-02: foo") ≡ bad 3
unfolding document block flow_value series value_in values_read dated_read variable_read named_read entry_read member_read section_by section_read outputs_in outputs_of
value_on_its_line = rw (five, foo) refl

map_for_a_value : read (codes "salary:\n  2017-01:\n    foo: 5") ≡ bad 3
unfolding document block flow_value series value_in values_read dated_read variable_read named_read entry_read member_read section_by section_read outputs_in outputs_of
map_for_a_value = refl

empty_map_for_a_value : read (codes "salary:\n  2017-01: {}") ≡ bad 2
unfolding document block flow_value series value_in values_read dated_read variable_read named_read entry_read member_read section_by section_read outputs_in outputs_of
empty_map_for_a_value = refl

-- Nothing is no value

null_of_a_variable : read (codes "age: 5\nsalary:") ≡ bad 2
unfolding document block flow_value series value_in values_read dated_read variable_read named_read entry_read member_read section_by section_read outputs_in outputs_of
null_of_a_variable = rw five refl

null_at_a_period : read (codes "salary:\n  2017-01: 5\n  2017-02:") ≡ bad 3
unfolding document block flow_value series value_in values_read dated_read variable_read named_read entry_read member_read section_by section_read outputs_in outputs_of
null_at_a_period = rw five refl

null_in_a_list : read_of_people (codes "salary:\n- 5\n- null\n- 7") ≡ bad 3
unfolding document block flow_value series value_in values_read dated_read variable_read named_read entry_read member_read section_by section_read outputs_in outputs_of
null_in_a_list = rw five refl

null_for_all : read (codes "") ≡ bad 9
unfolding document block flow_value series value_in values_read dated_read variable_read named_read entry_read member_read section_by section_read outputs_in outputs_of
null_for_all = refl

-- Lists

-- the length of a list comes before its values
list_too_short : read_of_people (codes "salary:\n- 5\n- foo") ≡ bad 2
unfolding document block flow_value series value_in values_read dated_read variable_read named_read entry_read member_read section_by section_read outputs_in outputs_of
list_too_short = refl

list_too_long : read (codes "salary: [5, 7]") ≡ bad 1
unfolding document block flow_value series value_in values_read dated_read variable_read named_read entry_read member_read section_by section_read outputs_in outputs_of
list_too_long = refl

empty_list : read (codes "age: 5\nsalary: []") ≡ bad 2
unfolding document block flow_value series value_in values_read dated_read variable_read named_read entry_read member_read section_by section_read outputs_in outputs_of
empty_list = rw five refl

value_in_a_list : read_of_people (codes "salary:\n- 5\n- foo\n- 7") ≡ bad 3
unfolding document block flow_value series value_in values_read dated_read variable_read named_read entry_read member_read section_by section_read outputs_in outputs_of
value_in_a_list = rw (five, foo) refl

list_of_one_member : read_of_people (codes "persons:\n  Bob:\n    salary: [5]") ≡ bad 3
unfolding document block flow_value series value_in values_read dated_read variable_read named_read entry_read member_read section_by section_read outputs_in outputs_of
list_of_one_member = refl

list_of_the_only_member : read (codes "person:\n  salary:\n  - 5") ≡ bad 3
unfolding document block flow_value series value_in values_read dated_read variable_read named_read entry_read member_read section_by section_read outputs_in outputs_of
list_of_the_only_member = refl

-- Periods

unreadable_period : read (codes "salary:\n  foo: 5") ≡ bad 2
unfolding document block flow_value series value_in values_read dated_read variable_read named_read entry_read member_read section_by section_read outputs_in outputs_of
unreadable_period = refl

-- what can be shared as an input can't be asked for; the period comes before the value
period_too_long : read (codes "salary:\n  2017: foo") ≡ bad 2
unfolding document block flow_value series value_in values_read dated_read variable_read named_read entry_read member_read section_by section_read outputs_in outputs_of
period_too_long = refl

default_too_short : read (codes "age: 5\nyearly_tax: 5") ≡ bad 2
unfolding document block flow_value series value_in values_read dated_read variable_read named_read entry_read member_read section_by section_read outputs_in outputs_of
default_too_short = rw five refl

no_default : read_at alone None (codes "salary: 5") ≡ bad 1
unfolding document block flow_value series value_in values_read dated_read variable_read named_read entry_read member_read section_by section_read outputs_in outputs_of
no_default = refl

needs_no_default : read_at alone None (codes "height: 5") ≡ Some (Ok (row 6 0 eternity (number (pos 5) 1) ∷ []))
unfolding document block flow_value series value_in values_read dated_read variable_read named_read entry_read member_read section_by section_read outputs_in outputs_of
needs_no_default = rw five refl

any_period_for_ever : read (codes "height: {2017: 5}") ≡ Some (Ok (row 6 0 eternity (number (pos 5) 1) ∷ []))
unfolding document block flow_value series value_in values_read dated_read variable_read named_read entry_read member_read section_by section_read outputs_in outputs_of
any_period_for_ever = rw five refl

-- Names

unknown_variable : read (codes "age: 5\nfoo: 5") ≡ bad 2
unfolding document block flow_value series value_in values_read dated_read variable_read named_read entry_read member_read section_by section_read outputs_in outputs_of
unknown_variable = rw five refl

a_day : read (codes "born: 2017-01-01") ≡ bad 1
unfolding document block flow_value series value_in values_read dated_read variable_read named_read entry_read member_read section_by section_read outputs_in outputs_of
a_day = refl

a_text : read (codes "nickname: foo") ≡ bad 1
unfolding document block flow_value series value_in values_read dated_read variable_read named_read entry_read member_read section_by section_read outputs_in outputs_of
a_text = refl

-- Members of entities

by_plural : read_of_people (codes "{persons: {Bob: {salary: 5, age: 7}}, households: {home: {occupancy: owner}}}") ≡ Some (Ok (row 0 1 january (number (pos 5) 1) ∷ row 1 1 january (number (pos 7) 1) ∷ row 3 0 january (member 1) ∷ []))
unfolding document block flow_value series value_in values_read dated_read variable_read named_read entry_read member_read section_by section_read outputs_in outputs_of
by_plural = rw (five, seven) refl

-- the first member that has the name is meant
first_of_the_name : read_of_people (codes "{persons: {Ann: {salary: 5}}}") ≡ Some (Ok (row 0 0 january (number (pos 5) 1) ∷ []))
unfolding document block flow_value series value_in values_read dated_read variable_read named_read entry_read member_read section_by section_read outputs_in outputs_of
first_of_the_name = rw five refl

by_singular : read_of_people (codes "{household: {occupancy: owner, yearly_tax: {2017: 200}}}") ≡ Some (Ok (row 3 0 january (member 1) ∷ row 4 0 (months unit.Year (12 * 2017) 1) (number (pos 200) 1) ∷ []))
unfolding document block flow_value series value_in values_read dated_read variable_read named_read entry_read member_read section_by section_read outputs_in outputs_of
by_singular = rw two_hundred refl

singular_of_several : read_of_people (codes "household: {}\nperson: {}") ≡ bad 2
unfolding document block flow_value series value_in values_read dated_read variable_read named_read entry_read member_read section_by section_read outputs_in outputs_of
singular_of_several = refl

unknown_name : read_of_people (codes "persons:\n  Bob: {}\n  Eve: {}") ≡ bad 3
unfolding document block flow_value series value_in values_read dated_read variable_read named_read entry_read member_read section_by section_read outputs_in outputs_of
unknown_name = refl

of_another_entity : read_of_people (codes "persons:\n  Bob:\n    occupancy: owner") ≡ bad 3
unfolding document block flow_value series value_in values_read dated_read variable_read named_read entry_read member_read section_by section_read outputs_in outputs_of
of_another_entity = refl

a_role : read_of_people (codes "households:\n  home:\n    parents: Bob") ≡ bad 3
unfolding document block flow_value series value_in values_read dated_read variable_read named_read entry_read member_read section_by section_read outputs_in outputs_of
a_role = refl

a_role_of_all : read_of_people (codes "parents: Bob") ≡ bad 1
unfolding document block flow_value series value_in values_read dated_read variable_read named_read entry_read member_read section_by section_read outputs_in outputs_of
a_role_of_all = refl

no_map_of_a_member : read_of_people (codes "persons:\n  Bob: 5") ≡ bad 2
unfolding document block flow_value series value_in values_read dated_read variable_read named_read entry_read member_read section_by section_read outputs_in outputs_of
no_map_of_a_member = refl

null_of_a_member : read_of_people (codes "persons:\n  Bob:") ≡ bad 2
unfolding document block flow_value series value_in values_read dated_read variable_read named_read entry_read member_read section_by section_read outputs_in outputs_of
null_of_a_member = refl

list_of_members : read_of_people (codes "persons:\n- Bob") ≡ bad 2
unfolding document block flow_value series value_in values_read dated_read variable_read named_read entry_read member_read section_by section_read outputs_in outputs_of
list_of_members = refl

null_of_an_entity : read_of_people (codes "persons:") ≡ bad 1
unfolding document block flow_value series value_in values_read dated_read variable_read named_read entry_read member_read section_by section_read outputs_in outputs_of
null_of_an_entity = refl

-- all keys that name entities come before what stands there
keys_come_first : read_of_people (codes "persons: 5\nfoo: 5") ≡ bad 2
unfolding document block flow_value series value_in values_read dated_read variable_read named_read entry_read member_read section_by section_read outputs_in outputs_of
keys_come_first = refl

entity_twice : read_of_people (codes "household: {}\nhouseholds: 5") ≡ bad 2
unfolding document block flow_value series value_in values_read dated_read variable_read named_read entry_read member_read section_by section_read outputs_in outputs_of
entity_twice = refl

no_map : read (codes "foo") ≡ bad 1
unfolding document block flow_value series value_in values_read dated_read variable_read named_read entry_read member_read section_by section_read outputs_in outputs_of
no_map = refl

a_list : read (codes "- foo") ≡ bad 1
unfolding document block flow_value series value_in values_read dated_read variable_read named_read entry_read member_read section_by section_read outputs_in outputs_of
a_list = refl
