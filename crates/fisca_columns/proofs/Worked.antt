-- The definition of files of `fisca calc`, worked out on small ones.
use Rattle.std.proofs.Common.{◌≡◌, ℕ, List, [], ◌∷◌, codes, refl}
use Rattle.std.specs.Prelude.{Option, Some, None, Result, Ok, Err}
use Rattle.fisca_situations.proofs.Country.{child, households, nought, person, variable}
use Rattle.fisca_inputs.specs.Entries.{key}
use Rattle.fisca_inputs.specs.declared.fault.SituationKind.TheVariants as situation
use Rattle.fisca_model.specs.declared.key.Key.{Key}
use Rattle.fisca_members.specs.Steps.Members.{members_in}
use Rattle.fisca_members.specs.Steps.Persons.{with_person}
use Rattle.fisca_situations.specs.Steps.Reading.{dated_given, entry_given, inputs_given, member_below, named_given, section_by, section_given, value_given, variable_given}
use Rattle.fisca_situations.specs.Steps.Situations.{reading_in, reading_of}
use Rattle.fisca_situations.proofs.Shown.{january}
use Rattle.fisca_symbols.specs.declared.tables.Tables.{Tables}
use Rattle.fisca_symbols.specs.declared.variable.DeclaredType.TheVariants as type
use Rattle.fisca_time.specs.Period.{eternity}
use Rattle.fisca_time.specs.declared.unit.Unit.TheVariants as unit
use Rattle.fisca_yaml.specs.Flow.{flow_value, series}
use Rattle.fisca_yaml.specs.Grouping.{document, block}
use Rattle.fisca_yaml.specs.Node.{Node}
use Rattle.fisca_columns.specs.Calc.{Calc, calc_by, calc_of}
use Rattle.fisca_columns.specs.declared.fault.RunFileFault.{RunFileFault}
use Rattle.fisca_columns.specs.declared.fault.RunFileKind.{RunFileKind}
use Rattle.fisca_columns.specs.declared.fault.RunFileKind.TheVariants as kind

-- Persons in households, and some variables

abbrev country : Tables
country = record {
  entities = households (child ∷ []) ∷ person ∷ [];
  enums = [];
  variables =
      variable (codes "salary") 1 type.Float nought unit.Month None
      ∷ variable (codes "rent") 0 type.Float nought unit.Month None
      ∷ variable (codes "height") 1 type.Float nought unit.Eternity None
      ∷ [];
  parameters = [];
}

abbrev keys_of : Result Calc RunFileFault → Result (List Key) RunFileFault
keys_of (Ok c) = Ok c.columns
keys_of (Err f) = Err f

abbrev of_node : Option Node → Option (Result (List Key) RunFileFault)
of_node None = None
of_node (Some n) = Some (keys_of (calc_of country n))

-- the columns that a file says, or its first fault
abbrev read : List ℕ → Option (Result (List Key) RunFileFault)
read text = of_node (document text)

abbrev fault : ℕ → RunFileKind → Option (Result (List Key) RunFileFault)
fault line k = Some (Err (record { line = line; kind = k }))

-- Each key may be absent

no_keys : read (codes "{}") ≡ Some (Ok [])
unfolding document block flow_value series with_person value_given dated_given variable_given named_given entry_given member_below section_by section_given members_in inputs_given reading_in reading_of calc_by calc_of
no_keys = refl

period_alone : read (codes "period: 2017-01") ≡ Some (Ok [])
unfolding document block flow_value series with_person value_given dated_given variable_given named_given entry_given member_below section_by section_given members_in inputs_given reading_in reading_of calc_by calc_of
period_alone = refl

one_column : read (codes "columns: salary@2017-01") ≡ Some (Ok (key 0 0 january ∷ []))
unfolding document block flow_value series with_person value_given dated_given variable_given named_given entry_given member_below section_by section_given members_in inputs_given reading_in reading_of calc_by calc_of
one_column = refl

column_in_quotes : read (codes "columns: \"salary@2017-01\"") ≡ Some (Ok (key 0 0 january ∷ []))
unfolding document block flow_value series with_person value_given dated_given variable_given named_given entry_given member_below section_by section_given members_in inputs_given reading_in reading_of calc_by calc_of
column_in_quotes = refl

at_the_period : read (codes "columns: [salary, rent]\nperiod: 2017-01") ≡ Some (Ok (key 0 0 january ∷ key 1 0 january ∷ []))
unfolding document block flow_value series with_person value_given dated_given variable_given named_given entry_given member_below section_by section_given members_in inputs_given reading_in reading_of calc_by calc_of
at_the_period = refl

same_column_twice : read (codes "{period: 2017-01, columns: [salary, salary]}") ≡ Some (Ok (key 0 0 january ∷ key 0 0 january ∷ []))
unfolding document block flow_value series with_person value_given dated_given variable_given named_given entry_given member_below section_by section_given members_in inputs_given reading_in reading_of calc_by calc_of
same_column_twice = refl

no_column : read (codes "{columns: []}") ≡ Some (Ok [])
unfolding document block flow_value series with_person value_given dated_given variable_given named_given entry_given member_below section_by section_given members_in inputs_given reading_in reading_of calc_by calc_of
no_column = refl

for_ever : read (codes "columns: height") ≡ Some (Ok (key 2 0 eternity ∷ []))
unfolding document block flow_value series with_person value_given dated_given variable_given named_given entry_given member_below section_by section_given members_in inputs_given reading_in reading_of calc_by calc_of
for_ever = refl

of_the_second_person : read (codes "columns: salary#1\nperiod: 2017-01\ninput: {persons: {Ann: {}, Bob: {}}}") ≡ Some (Ok (key 0 1 january ∷ []))
unfolding document block flow_value series with_person value_given dated_given variable_given named_given entry_given member_below section_by section_given members_in inputs_given reading_in reading_of calc_by calc_of
of_the_second_person = refl

null_input : read (codes "{input: null, columns: height}") ≡ Some (Ok (key 2 0 eternity ∷ []))
unfolding document block flow_value series with_person value_given dated_given variable_given named_given entry_given member_below section_by section_given members_in inputs_given reading_in reading_of calc_by calc_of
null_input = refl

-- What is no map is told of the first line

nothing : read (codes "") ≡ fault 1 kind.BadKey
unfolding document block flow_value series with_person value_given dated_given variable_given named_given entry_given member_below section_by section_given members_in inputs_given reading_in reading_of calc_by calc_of
nothing = refl

a_word : read (codes "columns") ≡ fault 1 kind.BadKey
unfolding document block flow_value series with_person value_given dated_given variable_given named_given entry_given member_below section_by section_given members_in inputs_given reading_in reading_of calc_by calc_of
a_word = refl

a_list : read (codes "- columns") ≡ fault 1 kind.BadKey
unfolding document block flow_value series with_person value_given dated_given variable_given named_given entry_given member_below section_by section_given members_in inputs_given reading_in reading_of calc_by calc_of
a_list = refl

-- Keys, from top to bottom

axes : read (codes "period: 2017-01\naxes: []") ≡ fault 2 kind.BadKey
unfolding document block flow_value series with_person value_given dated_given variable_given named_given entry_given member_below section_by section_given members_in inputs_given reading_in reading_of calc_by calc_of
axes = refl

neutralize : read (codes "period: 2017-01\nneutralize: salary") ≡ fault 2 kind.BadKey
unfolding document block flow_value series with_person value_given dated_given variable_given named_given entry_given member_below section_by section_given members_in inputs_given reading_in reading_of calc_by calc_of
neutralize = refl

unreadable_period : read (codes "columns: salary\nperiod: soon") ≡ fault 2 kind.BadKey
unfolding document block flow_value series with_person value_given dated_given variable_given named_given entry_given member_below section_by section_given members_in inputs_given reading_in reading_of calc_by calc_of
unreadable_period = refl

null_period : read (codes "period:") ≡ fault 1 kind.BadKey
unfolding document block flow_value series with_person value_given dated_given variable_given named_given entry_given member_below section_by section_given members_in inputs_given reading_in reading_of calc_by calc_of
null_period = refl

list_of_periods : read (codes "period: [2017]") ≡ fault 1 kind.BadKey
unfolding document block flow_value series with_person value_given dated_given variable_given named_given entry_given member_below section_by section_given members_in inputs_given reading_in reading_of calc_by calc_of
list_of_periods = refl

null_columns : read (codes "columns:") ≡ fault 1 kind.BadKey
unfolding document block flow_value series with_person value_given dated_given variable_given named_given entry_given member_below section_by section_given members_in inputs_given reading_in reading_of calc_by calc_of
null_columns = refl

map_of_columns : read (codes "columns: {salary: 1}") ≡ fault 1 kind.BadKey
unfolding document block flow_value series with_person value_given dated_given variable_given named_given entry_given member_below section_by section_given members_in inputs_given reading_in reading_of calc_by calc_of
map_of_columns = refl

column_in_a_list : read (codes "columns:\n  - salary\n  - [rent]") ≡ fault 1 kind.BadKey
unfolding document block flow_value series with_person value_given dated_given variable_given named_given entry_given member_below section_by section_given members_in inputs_given reading_in reading_of calc_by calc_of
column_in_a_list = refl

null_column : read (codes "columns:\n  - salary\n  -") ≡ fault 1 kind.BadKey
unfolding document block flow_value series with_person value_given dated_given variable_given named_given entry_given member_below section_by section_given members_in inputs_given reading_in reading_of calc_by calc_of
null_column = refl

first_of_two : read (codes "columns:\nperiod:") ≡ fault 1 kind.BadKey
unfolding document block flow_value series with_person value_given dated_given variable_given named_given entry_given member_below section_by section_given members_in inputs_given reading_in reading_of calc_by calc_of
first_of_two = refl

-- Keys come before the input, and the input before the columns

key_before_input : read (codes "input: none\nother: 1") ≡ fault 2 kind.BadKey
unfolding document block flow_value series with_person value_given dated_given variable_given named_given entry_given member_below section_by section_given members_in inputs_given reading_in reading_of calc_by calc_of
key_before_input = refl

key_before_column : read (codes "columns: nope\nother: 1") ≡ fault 2 kind.BadKey
unfolding document block flow_value series with_person value_given dated_given variable_given named_given entry_given member_below section_by section_given members_in inputs_given reading_in reading_of calc_by calc_of
key_before_column = refl

input_before_column : read (codes "columns: nope\ninput:\n  foo: 1") ≡ fault 3 (kind.Situation situation.UnknownVariable)
unfolding document block flow_value series with_person value_given dated_given variable_given named_given entry_given member_below section_by section_given members_in inputs_given reading_in reading_of calc_by calc_of
input_before_column = refl

no_situation : read (codes "input: none") ≡ fault 1 (kind.Situation situation.BadValue)
unfolding document block flow_value series with_person value_given dated_given variable_given named_given entry_given member_below section_by section_given members_in inputs_given reading_in reading_of calc_by calc_of
no_situation = refl

nobody : read (codes "input:\n  persons: {}") ≡ fault 2 (kind.Situation situation.UnknownPerson)
unfolding document block flow_value series with_person value_given dated_given variable_given named_given entry_given member_below section_by section_given members_in inputs_given reading_in reading_of calc_by calc_of
nobody = refl

no_period_for_an_input : read (codes "input:\n  salary: 5") ≡ fault 2 (kind.Situation situation.PeriodMismatch)
unfolding document block flow_value series with_person value_given dated_given variable_given named_given entry_given member_below section_by section_given members_in inputs_given reading_in reading_of calc_by calc_of
no_period_for_an_input = refl

-- Columns, from top to bottom, by the lines of their scalars

unknown_column : read (codes "columns: nope") ≡ fault 1 kind.BadColumn
unfolding document block flow_value series with_person value_given dated_given variable_given named_given entry_given member_below section_by section_given members_in inputs_given reading_in reading_of calc_by calc_of
unknown_column = refl

no_period_for_a_column : read (codes "columns:\n  - salary@2017-01\n  - salary\n  - nope") ≡ fault 3 kind.BadColumn
unfolding document block flow_value series with_person value_given dated_given variable_given named_given entry_given member_below section_by section_given members_in inputs_given reading_in reading_of calc_by calc_of
no_period_for_a_column = refl

no_second_person : read (codes "columns:\n  - salary#1@2017-01") ≡ fault 2 kind.BadColumn
unfolding document block flow_value series with_person value_given dated_given variable_given named_given entry_given member_below section_by section_given members_in inputs_given reading_in reading_of calc_by calc_of
no_second_person = refl

column_of_another_period : read (codes "period: 2017\ncolumns: salary") ≡ fault 2 kind.BadColumn
unfolding document block flow_value series with_person value_given dated_given variable_given named_given entry_given member_below section_by section_given members_in inputs_given reading_in reading_of calc_by calc_of
column_of_another_period = refl
