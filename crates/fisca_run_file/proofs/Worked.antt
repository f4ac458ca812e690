-- The definition of run files, worked out on small ones.
use Rattle.std.proofs.Common.{◌≡◌, ℕ, ◌*◌, List, [], ◌∷◌, codes, pos, negsuc, refl, sym, lit<}
use Rattle.std.specs.Prelude.{Bool, true, false, map, Option, Some, None, Result, Ok, Err}
use Rattle.fisca_situations.proofs.Country.{child, households, nought, person, variable}
use Rattle.fisca_situations.proofs.Literals.{one, two, seven}
use Rattle.fisca_columns.specs.declared.fault.RunFileFault.{RunFileFault}
use Rattle.fisca_columns.specs.declared.fault.RunFileKind.{RunFileKind}
use Rattle.fisca_columns.specs.declared.fault.RunFileKind.TheVariants as kind
use Rattle.fisca_grid.specs.declared.axes.AxesFault.TheVariants as axes
use Rattle.fisca_inputs.specs.Entries.{key}
use Rattle.fisca_inputs.specs.Inputs.{key_given}
use Rattle.fisca_inputs.specs.declared.fault.SituationKind.TheVariants as situation
use Rattle.fisca_model.specs.declared.key.Key.{Key}
use Rattle.fisca_members.specs.Steps.Members.{members_in}
use Rattle.fisca_members.specs.Steps.Persons.{with_person}
use Rattle.fisca_num.specs.Literal.{number_of_literal, number_of_parts, digits_ratio}
use Rattle.fisca_num.specs.Number.{zero_number, whole_number}
use Rattle.fisca_num.specs.Operations.{only_number_of}
use Rattle.fisca_situations.specs.Steps.Reading.{dated_given, entry_given, inputs_given, member_below, named_given, section_by, section_given, value_given, variable_given}
use Rattle.fisca_situations.specs.Steps.Situations.{reading_in, reading_of}
use Rattle.fisca_symbols.specs.declared.tables.Tables.{Tables}
use Rattle.fisca_symbols.specs.declared.variable.DeclaredType.TheVariants as type
use Rattle.fisca_symbols.specs.declared.variable.SetInput.TheVariants as sharing
use Rattle.fisca_time.specs.Period.{Span, eternity, months}
use Rattle.fisca_time.specs.declared.unit.Unit.TheVariants as unit
use Rattle.fisca_yaml.specs.Flow.{flow_value, series}
use Rattle.fisca_yaml.specs.Grouping.{document, block}
use Rattle.fisca_yaml.specs.Node.{Node}
use Rattle.fisca_run_file.specs.RunFiles.{RunFile, asked_of, moved_in as moved_of_axes, movement_at, movement_of, run_file_by, run_file_of, base_situation_in, base_situation_of}
use Rattle.fisca_run_file.specs.Steps.SaidAxes.{axis_of, axis_said, spec_said, with_list}

-- Persons in households, and some variables

abbrev country : Tables
country = record {
  entities = households (child ∷ []) ∷ person ∷ [];
  enums = [];
  variables =
      variable (codes "salary") 1 type.Float nought unit.Month (Some sharing.DivideByPeriod)
      ∷ variable (codes "rent") 0 type.Float nought unit.Month None
      ∷ variable (codes "age") 1 type.Int nought unit.Month (Some sharing.DispatchByPeriod)
      ∷ variable (codes "height") 1 type.Float nought unit.Eternity None
      ∷ variable (codes "owns") 1 type.Bool nought unit.Month None
      ∷ variable (codes "born") 1 type.Date nought unit.Eternity None
      ∷ [];
  parameters = [];
}

-- what is looked at of a run file: how many values the axes of each group have, what they move, and what columns and conditions speak of
record Said : Type 0 where
  counts : List (List ℕ)
  moved : List Key
  columns : List Key
  conditions : List Key
  neutral : List Bool

abbrev said : RunFile → Said
said f = record {
  counts = map (map (λ x. x.count)) f.groups;
  moved = map key_given f.moved;
  columns = f.columns;
  conditions = map (λ x. x.key) f.conditions;
  neutral = f.neutral;
}

abbrev said_of : Result RunFile RunFileFault → Result Said RunFileFault
said_of (Ok f) = Ok (said f)
said_of (Err f) = Err f

abbrev of_node : Option Node → Option (Result Said RunFileFault)
of_node None = None
of_node (Some n) = Some (said_of (run_file_of country n))

-- what a run file says, or its first fault
abbrev read : List ℕ → Option (Result Said RunFileFault)
read text = of_node (document text)

abbrev january : Span
january = months unit.Month (12 * 2017) 1

abbrev year : Span
year = months unit.Year (12 * 2017) 1

abbrev fault : ℕ → RunFileKind → Option (Result Said RunFileFault)
fault line k = Some (Err (record { line = line; kind = k }))

abbrev none : List Bool
none = false ∷ false ∷ false ∷ false ∷ false ∷ false ∷ []

-- Literals, by their only number

zero : number_of_literal (codes "0") ≡ Ok zero_number
unfolding number_of_literal number_of_parts
zero = sym (only_number_of (digits_ratio false (codes "0") []) (Ok zero_number) (record { some = lit< tt; same = refl; lowest = zero_number.lowest }))

three : number_of_literal (codes "3") ≡ Ok (whole_number (pos 3) (lit< tt))
unfolding number_of_literal number_of_parts
three = sym (only_number_of (digits_ratio false (codes "3") []) (Ok (whole_number (pos 3) (lit< tt))) (record { some = lit< tt; same = refl; lowest = (whole_number (pos 3) (lit< tt)).lowest }))

three_point : number_of_literal (codes "3.0") ≡ Ok (whole_number (pos 3) (lit< tt))
unfolding number_of_literal number_of_parts
three_point = sym (only_number_of (digits_ratio false (codes "3") (codes "0")) (Ok (whole_number (pos 3) (lit< tt))) (record { some = lit< tt; same = refl; lowest = (whole_number (pos 3) (lit< tt)).lowest }))

most : number_of_literal (codes "1048576") ≡ Ok (whole_number (pos 1048576) (lit< tt))
unfolding number_of_literal number_of_parts
most = sym (only_number_of (digits_ratio false (codes "1048576") []) (Ok (whole_number (pos 1048576) (lit< tt))) (record { some = lit< tt; same = refl; lowest = (whole_number (pos 1048576) (lit< tt)).lowest }))

many : number_of_literal (codes "4097") ≡ Ok (whole_number (pos 4097) (lit< tt))
unfolding number_of_literal number_of_parts
many = sym (only_number_of (digits_ratio false (codes "4097") []) (Ok (whole_number (pos 4097) (lit< tt))) (record { some = lit< tt; same = refl; lowest = (whole_number (pos 4097) (lit< tt)).lowest }))

wide : number_of_literal (codes "1000000001") ≡ Ok (whole_number (pos 1000000001) (lit< tt))
unfolding number_of_literal number_of_parts
wide = sym (only_number_of (digits_ratio false (codes "1000000001") []) (Ok (whole_number (pos 1000000001) (lit< tt))) (record { some = lit< tt; same = refl; lowest = (whole_number (pos 1000000001) (lit< tt)).lowest }))

less : number_of_literal (codes "-1") ≡ Ok (whole_number (negsuc 0) (lit< tt))
unfolding number_of_literal number_of_parts
less = sym (only_number_of (digits_ratio true (codes "1") []) (Ok (whole_number (negsuc 0) (lit< tt))) (record { some = lit< tt; same = refl; lowest = (whole_number (negsuc 0) (lit< tt)).lowest }))

-- Axes in groups

one_axis : read (codes "period: 2017-01\naxes: [[{name: salary, count: 3, min: 0, max: 1}]]") ≡ Some (Ok (record { counts = (3 ∷ []) ∷ []; moved = key 0 0 january ∷ []; columns = []; conditions = []; neutral = none }))
unfolding document block flow_value series with_person value_given dated_given variable_given named_given entry_given member_below section_by section_given members_in inputs_given reading_in reading_of asked_of moved_of_axes movement_at movement_of run_file_by run_file_of base_situation_in base_situation_of axis_of axis_said spec_said with_list
one_axis = rw (three, zero, one) refl

groups : read (codes "period: 2017-01\naxes: [[{name: salary, count: 3, min: 0, max: 1}, {name: rent, count: 3, min: 1, max: 0}], [{name: age, count: 2, min: 0, max: 1}]]") ≡ Some (Ok (record { counts = (3 ∷ 3 ∷ []) ∷ (2 ∷ []) ∷ []; moved = key 0 0 january ∷ key 1 0 january ∷ key 2 0 january ∷ []; columns = []; conditions = []; neutral = none }))
unfolding document block flow_value series with_person value_given dated_given variable_given named_given entry_given member_below section_by section_given members_in inputs_given reading_in reading_of asked_of moved_of_axes movement_at movement_of run_file_by run_file_of base_situation_in base_situation_of axis_of axis_said spec_said with_list
groups = rw (three, zero, one, two) refl

axis_over_a_year : read (codes "axes: [[{name: age, count: 3.0, min: -1, max: 1, period: 2017, index: 0}]]") ≡ Some (Ok (record { counts = (3 ∷ []) ∷ []; moved = key 2 0 year ∷ []; columns = []; conditions = []; neutral = none }))
unfolding document block flow_value series with_person value_given dated_given variable_given named_given entry_given member_below section_by section_given members_in inputs_given reading_in reading_of asked_of moved_of_axes movement_at movement_of run_file_by run_file_of base_situation_in base_situation_of axis_of axis_said spec_said with_list
axis_over_a_year = rw (three_point, less, one, zero) refl

axis_for_ever : read (codes "axes: [[{name: height, count: 1, min: 0, max: 0}]]") ≡ Some (Ok (record { counts = (1 ∷ []) ∷ []; moved = key 3 0 eternity ∷ []; columns = []; conditions = []; neutral = none }))
unfolding document block flow_value series with_person value_given dated_given variable_given named_given entry_given member_below section_by section_given members_in inputs_given reading_in reading_of asked_of moved_of_axes movement_at movement_of run_file_by run_file_of base_situation_in base_situation_of axis_of axis_said spec_said with_list
axis_for_ever = rw (one, zero) refl

axis_of_the_second_person : read (codes "period: 2017-01\ninput: {persons: {Ann: {}, Bob: {}}}\naxes: [[{name: salary, index: 1, count: 2, min: 0, max: 1}]]") ≡ Some (Ok (record { counts = (2 ∷ []) ∷ []; moved = key 0 1 january ∷ []; columns = []; conditions = []; neutral = none }))
unfolding document block flow_value series with_person value_given dated_given variable_given named_given entry_given member_below section_by section_given members_in inputs_given reading_in reading_of asked_of moved_of_axes movement_at movement_of run_file_by run_file_of base_situation_in base_situation_of axis_of axis_said spec_said with_list
axis_of_the_second_person = rw (one, two, zero) refl

columns_and_a_filter : read (codes "period: 2017-01\naxes: [[{name: salary, count: 3, min: 0, max: 1}]]\ncolumns: [rent, salary]\nfilter: [salary >= 3, owns==true]") ≡ Some (Ok (record { counts = (3 ∷ []) ∷ []; moved = key 0 0 january ∷ []; columns = key 1 0 january ∷ key 0 0 january ∷ []; conditions = key 0 0 january ∷ key 4 0 january ∷ []; neutral = none }))
unfolding document block flow_value series with_person value_given dated_given variable_given named_given entry_given member_below section_by section_given members_in inputs_given reading_in reading_of asked_of moved_of_axes movement_at movement_of run_file_by run_file_of base_situation_in base_situation_of axis_of axis_said spec_said with_list
columns_and_a_filter = rw (three, zero, one, three) refl

neutralised_twice : read (codes "period: 2017-01\naxes: [[{name: salary, count: 3, min: 0, max: 1}]]\nneutralize: [rent, rent]") ≡ Some (Ok (record { counts = (3 ∷ []) ∷ []; moved = key 0 0 january ∷ []; columns = []; conditions = []; neutral = false ∷ true ∷ false ∷ false ∷ false ∷ false ∷ [] }))
unfolding document block flow_value series with_person value_given dated_given variable_given named_given entry_given member_below section_by section_given members_in inputs_given reading_in reading_of asked_of moved_of_axes movement_at movement_of run_file_by run_file_of base_situation_in base_situation_of axis_of axis_said spec_said with_list
neutralised_twice = rw (three, zero, one) refl

-- Keys, from top to bottom, and a missing one last

nothing : read (codes "") ≡ fault 1 kind.BadKey
unfolding document block flow_value series with_person value_given dated_given variable_given named_given entry_given member_below section_by section_given members_in inputs_given reading_in reading_of asked_of moved_of_axes movement_at movement_of run_file_by run_file_of base_situation_in base_situation_of axis_of axis_said spec_said with_list
nothing = refl

missing_axes : read (codes "period: 2017-01") ≡ fault 1 kind.BadKey
unfolding document block flow_value series with_person value_given dated_given variable_given named_given entry_given member_below section_by section_given members_in inputs_given reading_in reading_of asked_of moved_of_axes movement_at movement_of run_file_by run_file_of base_situation_in base_situation_of axis_of axis_said spec_said with_list
missing_axes = refl

unknown_before_missing : read (codes "period: 2017-01\nother: 1") ≡ fault 2 kind.BadKey
unfolding document block flow_value series with_person value_given dated_given variable_given named_given entry_given member_below section_by section_given members_in inputs_given reading_in reading_of asked_of moved_of_axes movement_at movement_of run_file_by run_file_of base_situation_in base_situation_of axis_of axis_said spec_said with_list
unknown_before_missing = refl

null_axes : read (codes "period: 2017-01\naxes:") ≡ fault 2 kind.BadKey
unfolding document block flow_value series with_person value_given dated_given variable_given named_given entry_given member_below section_by section_given members_in inputs_given reading_in reading_of asked_of moved_of_axes movement_at movement_of run_file_by run_file_of base_situation_in base_situation_of axis_of axis_said spec_said with_list
null_axes = refl

axes_without_groups : read (codes "period: 2017-01\naxes: [{name: salary, count: 3, min: 0, max: 1}]") ≡ fault 2 kind.BadKey
unfolding document block flow_value series with_person value_given dated_given variable_given named_given entry_given member_below section_by section_given members_in inputs_given reading_in reading_of asked_of moved_of_axes movement_at movement_of run_file_by run_file_of base_situation_in base_situation_of axis_of axis_said spec_said with_list
axes_without_groups = refl

group_of_scalars : read (codes "period: 2017-01\naxes:\n- - salary") ≡ fault 2 kind.BadKey
unfolding document block flow_value series with_person value_given dated_given variable_given named_given entry_given member_below section_by section_given members_in inputs_given reading_in reading_of asked_of moved_of_axes movement_at movement_of run_file_by run_file_of base_situation_in base_situation_of axis_of axis_said spec_said with_list
group_of_scalars = refl

unknown_key_of_an_axis : read (codes "axes:\n- - name: salary\n    step: 3") ≡ fault 3 kind.BadKey
unfolding document block flow_value series with_person value_given dated_given variable_given named_given entry_given member_below section_by section_given members_in inputs_given reading_in reading_of asked_of moved_of_axes movement_at movement_of run_file_by run_file_of base_situation_in base_situation_of axis_of axis_said spec_said with_list
unknown_key_of_an_axis = refl

count_below_zero : read (codes "axes:\n- - name: salary\n    count: -1") ≡ fault 3 kind.BadKey
unfolding document block flow_value series with_person value_given dated_given variable_given named_given entry_given member_below section_by section_given members_in inputs_given reading_in reading_of asked_of moved_of_axes movement_at movement_of run_file_by run_file_of base_situation_in base_situation_of axis_of axis_said spec_said with_list
count_below_zero = rw less refl

bound_in_quotes : read (codes "axes:\n- - name: salary\n    min: '0'") ≡ fault 3 kind.BadKey
unfolding document block flow_value series with_person value_given dated_given variable_given named_given entry_given member_below section_by section_given members_in inputs_given reading_in reading_of asked_of moved_of_axes movement_at movement_of run_file_by run_file_of base_situation_in base_situation_of axis_of axis_said spec_said with_list
bound_in_quotes = refl

unreadable_period_of_an_axis : read (codes "axes:\n- - name: salary\n    period: soon") ≡ fault 3 kind.BadKey
unfolding document block flow_value series with_person value_given dated_given variable_given named_given entry_given member_below section_by section_given members_in inputs_given reading_in reading_of asked_of moved_of_axes movement_at movement_of run_file_by run_file_of base_situation_in base_situation_of axis_of axis_said spec_said with_list
unreadable_period_of_an_axis = refl

missing_count : read (codes "period: 2017-01\naxes:\n- - name: salary\n    min: 0\n    max: 1") ≡ fault 1 kind.BadKey
unfolding document block flow_value series with_person value_given dated_given variable_given named_given entry_given member_below section_by section_given members_in inputs_given reading_in reading_of asked_of moved_of_axes movement_at movement_of run_file_by run_file_of base_situation_in base_situation_of axis_of axis_said spec_said with_list
missing_count = rw (zero, one) refl

first_of_two_keys : read (codes "axes:\n- - name: [a]\nother: 1") ≡ fault 2 kind.BadKey
unfolding document block flow_value series with_person value_given dated_given variable_given named_given entry_given member_below section_by section_given members_in inputs_given reading_in reading_of asked_of moved_of_axes movement_at movement_of run_file_by run_file_of base_situation_in base_situation_of axis_of axis_said spec_said with_list
first_of_two_keys = refl

null_filter : read (codes "axes: []\nfilter:") ≡ fault 2 kind.BadKey
unfolding document block flow_value series with_person value_given dated_given variable_given named_given entry_given member_below section_by section_given members_in inputs_given reading_in reading_of asked_of moved_of_axes movement_at movement_of run_file_by run_file_of base_situation_in base_situation_of axis_of axis_said spec_said with_list
null_filter = refl

map_to_neutralise : read (codes "axes: []\nneutralize: {a: 1}") ≡ fault 2 kind.BadKey
unfolding document block flow_value series with_person value_given dated_given variable_given named_given entry_given member_below section_by section_given members_in inputs_given reading_in reading_of asked_of moved_of_axes movement_at movement_of run_file_by run_file_of base_situation_in base_situation_of axis_of axis_said spec_said with_list
map_to_neutralise = refl

-- What is neutralised comes before the input, and the input before the axes

unknown_to_neutralise : read (codes "axes: []\ninput: none\nneutralize:\n- rent\n- nope") ≡ fault 5 kind.BadNeutral
unfolding document block flow_value series with_person value_given dated_given variable_given named_given entry_given member_below section_by section_given members_in inputs_given reading_in reading_of asked_of moved_of_axes movement_at movement_of run_file_by run_file_of base_situation_in base_situation_of axis_of axis_said spec_said with_list
unknown_to_neutralise = refl

day_to_neutralise : read (codes "axes: []\nneutralize: born") ≡ fault 2 kind.BadNeutral
unfolding document block flow_value series with_person value_given dated_given variable_given named_given entry_given member_below section_by section_given members_in inputs_given reading_in reading_of asked_of moved_of_axes movement_at movement_of run_file_by run_file_of base_situation_in base_situation_of axis_of axis_said spec_said with_list
day_to_neutralise = refl

key_before_neutralised : read (codes "axes: []\nneutralize: nope\nother: 1") ≡ fault 3 kind.BadKey
unfolding document block flow_value series with_person value_given dated_given variable_given named_given entry_given member_below section_by section_given members_in inputs_given reading_in reading_of asked_of moved_of_axes movement_at movement_of run_file_by run_file_of base_situation_in base_situation_of axis_of axis_said spec_said with_list
key_before_neutralised = refl

input_before_axes : read (codes "axes: []\ninput:\n  foo: 1") ≡ fault 3 (kind.Situation situation.UnknownVariable)
unfolding document block flow_value series with_person value_given dated_given variable_given named_given entry_given member_below section_by section_given members_in inputs_given reading_in reading_of asked_of moved_of_axes movement_at movement_of run_file_by run_file_of base_situation_in base_situation_of axis_of axis_said spec_said with_list
input_before_axes = refl

-- Axes, by the line of the item, or of all

no_group : read (codes "period: 2017-01\naxes: []") ≡ fault 2 (kind.Axes axes.NoAxes)
unfolding document block flow_value series with_person value_given dated_given variable_given named_given entry_given member_below section_by section_given members_in inputs_given reading_in reading_of asked_of moved_of_axes movement_at movement_of run_file_by run_file_of base_situation_in base_situation_of axis_of axis_said spec_said with_list
no_group = refl

empty_group : read (codes "period: 2017-01\naxes:\n- [{name: salary, count: 3, min: 0, max: 1}]\n- []") ≡ fault 2 (kind.Axes axes.NoAxes)
unfolding document block flow_value series with_person value_given dated_given variable_given named_given entry_given member_below section_by section_given members_in inputs_given reading_in reading_of asked_of moved_of_axes movement_at movement_of run_file_by run_file_of base_situation_in base_situation_of axis_of axis_said spec_said with_list
empty_group = rw (three, zero, one) refl

no_values : read (codes "axes:\n- [{name: salary, count: 1, min: 0, max: 1}]\n- [{name: nope, count: 0, min: 0, max: 1}]") ≡ fault 3 (kind.Axes axes.BadCount)
unfolding document block flow_value series with_person value_given dated_given variable_given named_given entry_given member_below section_by section_given members_in inputs_given reading_in reading_of asked_of moved_of_axes movement_at movement_of run_file_by run_file_of base_situation_in base_situation_of axis_of axis_said spec_said with_list
no_values = rw (one, zero) refl

bound_too_wide : read (codes "axes:\n- - name: salary\n    count: 2\n    min: 0\n    max: 1000000001") ≡ fault 2 (kind.Axes axes.BadBound)
unfolding document block flow_value series with_person value_given dated_given variable_given named_given entry_given member_below section_by section_given members_in inputs_given reading_in reading_of asked_of moved_of_axes movement_at movement_of run_file_by run_file_of base_situation_in base_situation_of axis_of axis_said spec_said with_list
bound_too_wide = rw (two, zero, wide) refl

counts_differ : read (codes "axes:\n- - {name: salary, count: 3, min: 0, max: 1}\n  - {name: rent, count: 3, min: 0, max: 1}\n  - {name: age, count: 2, min: 0, max: 1}") ≡ fault 4 (kind.Axes axes.CountsDiffer)
unfolding document block flow_value series with_person value_given dated_given variable_given named_given entry_given member_below section_by section_given members_in inputs_given reading_in reading_of asked_of moved_of_axes movement_at movement_of run_file_by run_file_of base_situation_in base_situation_of axis_of axis_said spec_said with_list
counts_differ = rw (three, zero, one, two) refl

grid_too_large : read (codes "axes:\n- [{name: salary, count: 1048576, min: 0, max: 1}]\n- [{name: salary, count: 4097, min: 0, max: 1}]") ≡ fault 1 (kind.Axes axes.TooLarge)
unfolding document block flow_value series with_person value_given dated_given variable_given named_given entry_given member_below section_by section_given members_in inputs_given reading_in reading_of asked_of moved_of_axes movement_at movement_of run_file_by run_file_of base_situation_in base_situation_of axis_of axis_said spec_said with_list
grid_too_large = rw (most, zero, one, many) refl

no_such_member_before_the_next_axis : read (codes "period: 2017-01\naxes:\n- - {name: salary, index: 7, count: 3, min: 0, max: 1}\n- - {name: owns, count: 3, min: 0, max: 1}") ≡ fault 3 (kind.Axes axes.BadIndex)
unfolding document block flow_value series with_person value_given dated_given variable_given named_given entry_given member_below section_by section_given members_in inputs_given reading_in reading_of asked_of moved_of_axes movement_at movement_of run_file_by run_file_of base_situation_in base_situation_of axis_of axis_said spec_said with_list
no_such_member_before_the_next_axis = rw (seven, three, zero, one) refl

variable_without_numbers : read (codes "period: 2017-01\naxes:\n- - {name: salary, count: 3, min: 0, max: 1}\n- - {name: owns, count: 3, min: 0, max: 1}") ≡ fault 4 (kind.Axes axes.UnknownVariable)
unfolding document block flow_value series with_person value_given dated_given variable_given named_given entry_given member_below section_by section_given members_in inputs_given reading_in reading_of asked_of moved_of_axes movement_at movement_of run_file_by run_file_of base_situation_in base_situation_of axis_of axis_said spec_said with_list
variable_without_numbers = rw (three, zero, one) refl

no_period_for_an_axis : read (codes "axes:\n- [{name: salary, count: 3, min: 0, max: 1}]") ≡ fault 2 (kind.Axes axes.PeriodMismatch)
unfolding document block flow_value series with_person value_given dated_given variable_given named_given entry_given member_below section_by section_given members_in inputs_given reading_in reading_of asked_of moved_of_axes movement_at movement_of run_file_by run_file_of base_situation_in base_situation_of axis_of axis_said spec_said with_list
no_period_for_an_axis = rw (three, zero, one) refl

longer_period_without_sharing : read (codes "axes:\n- [{name: rent, count: 3, min: 0, max: 1, period: 2017}]") ≡ fault 2 (kind.Axes axes.PeriodMismatch)
unfolding document block flow_value series with_person value_given dated_given variable_given named_given entry_given member_below section_by section_given members_in inputs_given reading_in reading_of asked_of moved_of_axes movement_at movement_of run_file_by run_file_of base_situation_in base_situation_of axis_of axis_said spec_said with_list
longer_period_without_sharing = rw (three, zero, one) refl

-- Overlaps

axes_for_ever : read (codes "axes:\n- [{name: height, count: 2, min: 0, max: 1}]\n- [{name: height, count: 2, min: 0, max: 1, period: 2017}]") ≡ fault 3 (kind.Axes axes.AxisOverlap)
unfolding document block flow_value series with_person value_given dated_given variable_given named_given entry_given member_below section_by section_given members_in inputs_given reading_in reading_of asked_of moved_of_axes movement_at movement_of run_file_by run_file_of base_situation_in base_situation_of axis_of axis_said spec_said with_list
axes_for_ever = rw (two, zero, one) refl

-- Columns come before conditions, and both after axes

column_before_condition : read (codes "period: 2017-01\naxes: [[{name: salary, count: 3, min: 0, max: 1}]]\nfilter: nope\ncolumns: nope") ≡ fault 4 kind.BadColumn
unfolding document block flow_value series with_person value_given dated_given variable_given named_given entry_given member_below section_by section_given members_in inputs_given reading_in reading_of asked_of moved_of_axes movement_at movement_of run_file_by run_file_of base_situation_in base_situation_of axis_of axis_said spec_said with_list
column_before_condition = rw (three, zero, one) refl

axes_before_column : read (codes "axes: []\ncolumns: nope") ≡ fault 1 (kind.Axes axes.NoAxes)
unfolding document block flow_value series with_person value_given dated_given variable_given named_given entry_given member_below section_by section_given members_in inputs_given reading_in reading_of asked_of moved_of_axes movement_at movement_of run_file_by run_file_of base_situation_in base_situation_of axis_of axis_said spec_said with_list
axes_before_column = refl

no_comparison : read (codes "period: 2017-01\naxes: [[{name: salary, count: 3, min: 0, max: 1}]]\nfilter: salary") ≡ fault 3 kind.BadCondition
unfolding document block flow_value series with_person value_given dated_given variable_given named_given entry_given member_below section_by section_given members_in inputs_given reading_in reading_of asked_of moved_of_axes movement_at movement_of run_file_by run_file_of base_situation_in base_situation_of axis_of axis_said spec_said with_list
no_comparison = rw (three, zero, one) refl

spaces_at_the_end : read (codes "period: 2017-01\naxes: [[{name: salary, count: 3, min: 0, max: 1}]]\nfilter: 'owns==true '") ≡ fault 3 kind.BadCondition
unfolding document block flow_value series with_person value_given dated_given variable_given named_given entry_given member_below section_by section_given members_in inputs_given reading_in reading_of asked_of moved_of_axes movement_at movement_of run_file_by run_file_of base_situation_in base_situation_of axis_of axis_said spec_said with_list
spaces_at_the_end = rw (three, zero, one) refl

number_for_a_bool : read (codes "period: 2017-01\naxes: [[{name: salary, count: 3, min: 0, max: 1}]]\nfilter: owns==1") ≡ fault 3 kind.BadCondition
unfolding document block flow_value series with_person value_given dated_given variable_given named_given entry_given member_below section_by section_given members_in inputs_given reading_in reading_of asked_of moved_of_axes movement_at movement_of run_file_by run_file_of base_situation_in base_situation_of axis_of axis_said spec_said with_list
number_for_a_bool = rw (three, zero, one) refl

order_of_bools : read (codes "period: 2017-01\naxes: [[{name: salary, count: 3, min: 0, max: 1}]]\nfilter: owns>=true") ≡ fault 3 kind.BadCondition
unfolding document block flow_value series with_person value_given dated_given variable_given named_given entry_given member_below section_by section_given members_in inputs_given reading_in reading_of asked_of moved_of_axes movement_at movement_of run_file_by run_file_of base_situation_in base_situation_of axis_of axis_said spec_said with_list
order_of_bools = rw (three, zero, one) refl

two_signs : read (codes "period: 2017-01\naxes: [[{name: salary, count: 3, min: 0, max: 1}]]\nfilter: salary > = 3") ≡ fault 3 kind.BadCondition
unfolding document block flow_value series with_person value_given dated_given variable_given named_given entry_given member_below section_by section_given members_in inputs_given reading_in reading_of asked_of moved_of_axes movement_at movement_of run_file_by run_file_of base_situation_in base_situation_of axis_of axis_said spec_said with_list number_of_literal number_of_parts
two_signs = rw (three, zero, one) refl

unknown_in_a_condition : read (codes "period: 2017-01\naxes: [[{name: salary, count: 3, min: 0, max: 1}]]\nfilter: nope>=3") ≡ fault 3 kind.BadCondition
unfolding document block flow_value series with_person value_given dated_given variable_given named_given entry_given member_below section_by section_given members_in inputs_given reading_in reading_of asked_of moved_of_axes movement_at movement_of run_file_by run_file_of base_situation_in base_situation_of axis_of axis_said spec_said with_list
unknown_in_a_condition = rw (three, zero, one) refl
