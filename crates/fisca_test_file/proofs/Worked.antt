-- The definition of files of tests, worked out on small ones.
use Rattle.std.proofs.Common.{◌≡◌, ℕ, List, [], ◌∷◌, map, length, codes, refl, sym, lit<}
use Rattle.std.specs.Prelude.{negsuc, Bool, true, false, is_some, Option, Some, None, Result, Ok, Err}
use Rattle.fisca_situations.proofs.Country.{country}
use Rattle.fisca_situations.proofs.Literals.{five, thirty, one, nothing_more}
use Rattle.fisca_inputs.specs.declared.fault.SituationKind.TheVariants as situation
use Rattle.fisca_members.specs.Steps.Members.{members_in}
use Rattle.fisca_members.specs.Steps.Persons.{with_person}
use Rattle.fisca_num.specs.Literal.{number_of_literal, number_of_parts, digits_ratio}
use Rattle.fisca_num.specs.Number.{whole_number}
use Rattle.fisca_num.specs.Operations.{only_number_of}
use Rattle.fisca_situations.specs.Steps.Reading.{dated_given, entry_given, inputs_given, member_below, named_given, section_by, section_given, value_given, variable_given}
use Rattle.fisca_situations.specs.Steps.Situations.{reading_in, reading_of}
use Rattle.fisca_yaml.specs.Flow.{flow_value, series}
use Rattle.fisca_yaml.specs.Grouping.{document, block}
use Rattle.fisca_yaml.specs.Node.{Node}
use Rattle.fisca_expected.specs.Steps.Reading.{dated_read, entry_read, member_read, named_read, outputs_in, outputs_of, section_by as outputs_section_by, section_read, value_in, values_read, variable_read}
use Rattle.fisca_test_file.specs.Steps.Faults.{at_line}
use Rattle.fisca_test_file.specs.Tests.{Test}
use Rattle.fisca_test_file.specs.Steps.Tests.{test_by, test_of, tests_of}
use Rattle.fisca_test_file.specs.declared.fault.TestFault.{TestFault}
use Rattle.fisca_test_file.specs.declared.fault.TestKind.{TestKind}
use Rattle.fisca_test_file.specs.declared.fault.TestKind.TheVariants as kind

-- of a test: its name, whether it has an absolute and a relative margin, how many inputs it has after sharing, and how many values it expects
record Shown : Type 0 where
  name : Option (List ℕ)
  absolute : Bool
  relative : Bool
  inputs : ℕ
  outputs : ℕ

abbrev shown : Test → Shown
shown t = record {
  name = t.name;
  absolute = is_some t.margins.absolute;
  relative = is_some t.margins.relative;
  inputs = length t.situation.inputs;
  outputs = length t.outputs;
}

abbrev all_shown : Result (List Test) TestFault → Result (List Shown) TestFault
all_shown (Ok ts) = Ok (map shown ts)
all_shown (Err f) = Err f

abbrev of_node : Option Node → Option (Result (List Shown) TestFault)
of_node None = None
of_node (Some n) = Some (all_shown (tests_of country n))

-- the tests that a file says, or its first fault
abbrev read : List ℕ → Option (Result (List Shown) TestFault)
read text = of_node (document text)

abbrev named : Option (List ℕ) → Bool → Bool → ℕ → ℕ → Shown
named name absolute relative inputs outputs = record { name = name; absolute = absolute; relative = relative; inputs = inputs; outputs = outputs }

-- without a name and margins
abbrev plain : ℕ → ℕ → Shown
plain inputs outputs = named None false false inputs outputs

abbrev fault : ℕ → TestKind → Option (Result (List Shown) TestFault)
fault line k = Some (Err (at_line line k))

-- Literals, by their only number

minus_five : number_of_literal (codes "-5") ≡ Ok (whole_number (negsuc 4) (lit< tt))
unfolding number_of_literal number_of_parts
minus_five = sym (only_number_of (digits_ratio true (codes "5") []) (Ok (whole_number (negsuc 4) (lit< tt))) (record { some = lit< tt; same = refl; lowest = (whole_number (negsuc 4) (lit< tt)).lowest }))

-- One test, or a list of them

no_outputs : read (codes "output: {}") ≡ Some (Ok (plain 0 0 ∷ []))
unfolding document block flow_value series with_person value_given dated_given variable_given named_given entry_given member_below section_by section_given members_in inputs_given reading_in reading_of value_in values_read dated_read variable_read named_read entry_read member_read outputs_section_by section_read outputs_in outputs_of test_by test_of tests_of
no_outputs = refl

one_test : read (codes "{period: 2017-01, input: {age: 30}, output: {age: 30}}") ≡ Some (Ok (plain 1 1 ∷ []))
unfolding document block flow_value series with_person value_given dated_given variable_given named_given entry_given member_below section_by section_given members_in inputs_given reading_in reading_of value_in values_read dated_read variable_read named_read entry_read member_read outputs_section_by section_read outputs_in outputs_of test_by test_of tests_of
one_test = rw (thirty, thirty) refl

no_tests : read (codes "[]") ≡ Some (Ok [])
unfolding document block flow_value series with_person value_given dated_given variable_given named_given entry_given member_below section_by section_given members_in inputs_given reading_in reading_of value_in values_read dated_read variable_read named_read entry_read member_read outputs_section_by section_read outputs_in outputs_of test_by test_of tests_of
no_tests = refl

two_tests : read (codes "- output: {}\n- name: far\n  period: 2017-01\n  output: {age: 5}") ≡ Some (Ok (plain 0 0 ∷ named (Some (codes "far")) false false 0 1 ∷ []))
unfolding document block flow_value series with_person value_given dated_given variable_given named_given entry_given member_below section_by section_given members_in inputs_given reading_in reading_of value_in values_read dated_read variable_read named_read entry_read member_read outputs_section_by section_read outputs_in outputs_of test_by test_of tests_of
two_tests = rw five refl

all_keys : read (codes "{name: near, description: foo, keywords: [a, b], absolute_error_margin: 1, relative_error_margin: +0, period: 2017-01, input: {age: 30}, output: {age: 5}}") ≡ Some (Ok (named (Some (codes "near")) true true 1 1 ∷ []))
unfolding document block flow_value series with_person value_given dated_given variable_given named_given entry_given member_below section_by section_given members_in inputs_given reading_in reading_of value_in values_read dated_read variable_read named_read entry_read member_read outputs_section_by section_read outputs_in outputs_of test_by test_of tests_of
all_keys = simp (one, nothing_more, thirty, five)

empty_name : read (codes "{name: \"\", output: {}}") ≡ Some (Ok (named (Some []) false false 0 0 ∷ []))
unfolding document block flow_value series with_person value_given dated_given variable_given named_given entry_given member_below section_by section_given members_in inputs_given reading_in reading_of value_in values_read dated_read variable_read named_read entry_read member_read outputs_section_by section_read outputs_in outputs_of test_by test_of tests_of
empty_name = refl

no_input : read (codes "{input: null, output: {}}") ≡ Some (Ok (plain 0 0 ∷ []))
unfolding document block flow_value series with_person value_given dated_given variable_given named_given entry_given member_below section_by section_given members_in inputs_given reading_in reading_of value_in values_read dated_read variable_read named_read entry_read member_read outputs_section_by section_read outputs_in outputs_of test_by test_of tests_of
no_input = refl

of_each_person : read (codes "{period: 2017-01, input: {persons: {Ann: {}, Bob: {}}}, output: {age: 5}}") ≡ Some (Ok (plain 0 2 ∷ []))
unfolding document block flow_value series with_person value_given dated_given variable_given named_given entry_given member_below section_by section_given members_in inputs_given reading_in reading_of value_in values_read dated_read variable_read named_read entry_read member_read outputs_section_by section_read outputs_in outputs_of test_by test_of tests_of
of_each_person = rw five refl

-- Keys

unknown_key : read (codes "output: {}\nfoo: 5") ≡ fault 2 kind.BadTest
unfolding document block flow_value series with_person value_given dated_given variable_given named_given entry_given member_below section_by section_given members_in inputs_given reading_in reading_of value_in values_read dated_read variable_read named_read entry_read member_read outputs_section_by section_read outputs_in outputs_of test_by test_of tests_of
unknown_key = refl

-- a missing key is told of the first line of its test
no_output : read (codes "\nname: near\nperiod: 2017-01") ≡ fault 2 kind.BadTest
unfolding document block flow_value series with_person value_given dated_given variable_given named_given entry_given member_below section_by section_given members_in inputs_given reading_in reading_of value_in values_read dated_read variable_read named_read entry_read member_read outputs_section_by section_read outputs_in outputs_of test_by test_of tests_of
no_output = refl

no_output_of_an_item : read (codes "- output: {}\n- name: near") ≡ fault 2 kind.BadTest
unfolding document block flow_value series with_person value_given dated_given variable_given named_given entry_given member_below section_by section_given members_in inputs_given reading_in reading_of value_in values_read dated_read variable_read named_read entry_read member_read outputs_section_by section_read outputs_in outputs_of test_by test_of tests_of
no_output_of_an_item = refl

no_keys : read (codes "- output: {}\n- {}") ≡ fault 2 kind.BadTest
unfolding document block flow_value series with_person value_given dated_given variable_given named_given entry_given member_below section_by section_given members_in inputs_given reading_in reading_of value_in values_read dated_read variable_read named_read entry_read member_read outputs_section_by section_read outputs_in outputs_of test_by test_of tests_of
no_keys = refl

bad_key_before_missing_one : read (codes "name: near\nfoo: 5") ≡ fault 2 kind.BadTest
unfolding document block flow_value series with_person value_given dated_given variable_given named_given entry_given member_below section_by section_given members_in inputs_given reading_in reading_of value_in values_read dated_read variable_read named_read entry_read member_read outputs_section_by section_read outputs_in outputs_of test_by test_of tests_of
bad_key_before_missing_one = refl

unreadable_period : read (codes "output: {}\nperiod: foo") ≡ fault 2 kind.BadTest
unfolding document block flow_value series with_person value_given dated_given variable_given named_given entry_given member_below section_by section_given members_in inputs_given reading_in reading_of value_in values_read dated_read variable_read named_read entry_read member_read outputs_section_by section_read outputs_in outputs_of test_by test_of tests_of
unreadable_period = refl

null_period : read (codes "output: {}\nperiod:") ≡ fault 2 kind.BadTest
unfolding document block flow_value series with_person value_given dated_given variable_given named_given entry_given member_below section_by section_given members_in inputs_given reading_in reading_of value_in values_read dated_read variable_read named_read entry_read member_read outputs_section_by section_read outputs_in outputs_of test_by test_of tests_of
null_period = refl

null_name : read (codes "output: {}\nname:") ≡ fault 2 kind.BadTest
unfolding document block flow_value series with_person value_given dated_given variable_given named_given entry_given member_below section_by section_given members_in inputs_given reading_in reading_of value_in values_read dated_read variable_read named_read entry_read member_read outputs_section_by section_read outputs_in outputs_of test_by test_of tests_of
null_name = refl

list_as_a_name : read (codes "output: {}\nname: [a]") ≡ fault 2 kind.BadTest
unfolding document block flow_value series with_person value_given dated_given variable_given named_given entry_given member_below section_by section_given members_in inputs_given reading_in reading_of value_in values_read dated_read variable_read named_read entry_read member_read outputs_section_by section_read outputs_in outputs_of test_by test_of tests_of
list_as_a_name = refl

map_as_a_description : read (codes "output: {}\ndescription: {a: b}") ≡ fault 2 kind.BadTest
unfolding document block flow_value series with_person value_given dated_given variable_given named_given entry_given member_below section_by section_given members_in inputs_given reading_in reading_of value_in values_read dated_read variable_read named_read entry_read member_read outputs_section_by section_read outputs_in outputs_of test_by test_of tests_of
map_as_a_description = refl

keyword_in_a_list : read (codes "output: {}\nkeywords: [a, [b]]") ≡ fault 2 kind.BadTest
unfolding document block flow_value series with_person value_given dated_given variable_given named_given entry_given member_below section_by section_given members_in inputs_given reading_in reading_of value_in values_read dated_read variable_read named_read entry_read member_read outputs_section_by section_read outputs_in outputs_of test_by test_of tests_of
keyword_in_a_list = refl

one_keyword : read (codes "{output: {}, keywords: a}") ≡ Some (Ok (plain 0 0 ∷ []))
unfolding document block flow_value series with_person value_given dated_given variable_given named_given entry_given member_below section_by section_given members_in inputs_given reading_in reading_of value_in values_read dated_read variable_read named_read entry_read member_read outputs_section_by section_read outputs_in outputs_of test_by test_of tests_of
one_keyword = refl

negative_margin : read (codes "output: {}\nabsolute_error_margin: -5") ≡ fault 2 kind.BadTest
unfolding document block flow_value series with_person value_given dated_given variable_given named_given entry_given member_below section_by section_given members_in inputs_given reading_in reading_of value_in values_read dated_read variable_read named_read entry_read member_read outputs_section_by section_read outputs_in outputs_of test_by test_of tests_of
negative_margin = rw minus_five refl

margin_in_quotes : read (codes "output: {}\nrelative_error_margin: \"5\"") ≡ fault 2 kind.BadTest
unfolding document block flow_value series with_person value_given dated_given variable_given named_given entry_given member_below section_by section_given members_in inputs_given reading_in reading_of value_in values_read dated_read variable_read named_read entry_read member_read outputs_section_by section_read outputs_in outputs_of test_by test_of tests_of
margin_in_quotes = refl

-- What is no map

nothing : read (codes "") ≡ fault 1 kind.BadTest
unfolding document block flow_value series with_person value_given dated_given variable_given named_given entry_given member_below section_by section_given members_in inputs_given reading_in reading_of value_in values_read dated_read variable_read named_read entry_read member_read outputs_section_by section_read outputs_in outputs_of test_by test_of tests_of
nothing = refl

a_word : read (codes "\nfoo") ≡ fault 2 kind.BadTest
unfolding document block flow_value series with_person value_given dated_given variable_given named_given entry_given member_below section_by section_given members_in inputs_given reading_in reading_of value_in values_read dated_read variable_read named_read entry_read member_read outputs_section_by section_read outputs_in outputs_of test_by test_of tests_of
a_word = refl

word_in_a_list : read (codes "- output: {}\n- foo") ≡ fault 2 kind.BadTest
unfolding document block flow_value series with_person value_given dated_given variable_given named_given entry_given member_below section_by section_given members_in inputs_given reading_in reading_of value_in values_read dated_read variable_read named_read entry_read member_read outputs_section_by section_read outputs_in outputs_of test_by test_of tests_of
word_in_a_list = refl

nothing_in_a_list : read (codes "- output: {}\n- null") ≡ fault 2 kind.BadTest
unfolding document block flow_value series with_person value_given dated_given variable_given named_given entry_given member_below section_by section_given members_in inputs_given reading_in reading_of value_in values_read dated_read variable_read named_read entry_read member_read outputs_section_by section_read outputs_in outputs_of test_by test_of tests_of
nothing_in_a_list = refl

list_in_a_list : read (codes "- output: {}\n-\n  - foo") ≡ fault 2 kind.BadTest
unfolding document block flow_value series with_person value_given dated_given variable_given named_given entry_given member_below section_by section_given members_in inputs_given reading_in reading_of value_in values_read dated_read variable_read named_read entry_read member_read outputs_section_by section_read outputs_in outputs_of test_by test_of tests_of
list_in_a_list = refl

-- Situations, then outputs; test by test

no_situation : read (codes "output: {foo: 5}\ninput:\n  bar: 5") ≡ fault 3 (kind.Situation situation.UnknownVariable)
unfolding document block flow_value series with_person value_given dated_given variable_given named_given entry_given member_below section_by section_given members_in inputs_given reading_in reading_of value_in values_read dated_read variable_read named_read entry_read member_read outputs_section_by section_read outputs_in outputs_of test_by test_of tests_of
no_situation = refl

keys_before_the_situation : read (codes "input:\n  bar: 5\noutput: {}\nfoo: 5") ≡ fault 4 kind.BadTest
unfolding document block flow_value series with_person value_given dated_given variable_given named_given entry_given member_below section_by section_given members_in inputs_given reading_in reading_of value_in values_read dated_read variable_read named_read entry_read member_read outputs_section_by section_read outputs_in outputs_of test_by test_of tests_of
keys_before_the_situation = refl

no_output_of_the_name : read (codes "input: {}\noutput:\n  foo: 5") ≡ fault 3 kind.BadOutput
unfolding document block flow_value series with_person value_given dated_given variable_given named_given entry_given member_below section_by section_given members_in inputs_given reading_in reading_of value_in values_read dated_read variable_read named_read entry_read member_read outputs_section_by section_read outputs_in outputs_of test_by test_of tests_of
no_output_of_the_name = refl

null_output : read (codes "input: {}\noutput:") ≡ fault 2 kind.BadOutput
unfolding document block flow_value series with_person value_given dated_given variable_given named_given entry_given member_below section_by section_given members_in inputs_given reading_in reading_of value_in values_read dated_read variable_read named_read entry_read member_read outputs_section_by section_read outputs_in outputs_of test_by test_of tests_of
null_output = refl

no_period_of_an_output : read (codes "output:\n  age: 5") ≡ fault 2 kind.BadOutput
unfolding document block flow_value series with_person value_given dated_given variable_given named_given entry_given member_below section_by section_given members_in inputs_given reading_in reading_of value_in values_read dated_read variable_read named_read entry_read member_read outputs_section_by section_read outputs_in outputs_of test_by test_of tests_of
no_period_of_an_output = refl

first_test_first : read (codes "- output:\n    foo: 5\n- foo") ≡ fault 2 kind.BadOutput
unfolding document block flow_value series with_person value_given dated_given variable_given named_given entry_given member_below section_by section_given members_in inputs_given reading_in reading_of value_in values_read dated_read variable_read named_read entry_read member_read outputs_section_by section_read outputs_in outputs_of test_by test_of tests_of
first_test_first = refl
