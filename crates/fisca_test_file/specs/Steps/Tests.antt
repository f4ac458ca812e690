-- The steps of code behind `Tests`:
-- A file of tests: a test, or a list of tests. Each is a map with `output` and perhaps `name`, `period`, `input`, margins, `keywords` and
-- `description`. Test by test its keys come first, then its situation, then its outputs; the first fault is told.
use Rattle.std.specs.Prelude.{ℕ, List, [], ◌∷◌, ◌++◌, Bool, true, ◌&&◌, is_some, if◌then◌else◌, Option, Some, None, option_and_then, Result, Ok, codes}
use Rattle.std.specs.Int.{is_negative}
use Rattle.std.specs.Option.{unwrap_or}
use Rattle.std.specs.Str.{bytes_eq}
use Rattle.fisca_columns.specs.Steps.Calc.{are_columns as are_texts, default_in, period_in}
use Rattle.fisca_groups.specs.declared.entity_members.EntityMembers.{EntityMembers}
use Rattle.fisca_num.specs.Number.{Number}
use Rattle.fisca_expected.specs.Outputs.{Output}
use Rattle.std.specs.List.{filter}
use Rattle.fisca_expected.specs.Steps.Reading.{outputs_of}
use Rattle.fisca_expected.specs.Steps.Tested.{is_tested}
use Rattle.fisca_num.specs.Results.{and_then}
use Rattle.fisca_situations.specs.Situations.{Situation}
use Rattle.fisca_situations.specs.Steps.Situations.{situation_of}
use Rattle.fisca_symbols.specs.declared.tables.Tables.{Tables}
use Rattle.fisca_yaml.specs.Find.{begins_on, line_at}
use Rattle.fisca_yaml.specs.Steps.Find.{as_number, as_text, get}
use Rattle.fisca_yaml.specs.Node.{Node, null, scalar, list, map, Items, no_items, item, Entries, no_entries, entry}
use Rattle.fisca_test_file.specs.Faults.{outputs_told, situation_told}
use Rattle.fisca_test_file.specs.Steps.Faults.{fault_at}
use Rattle.fisca_test_file.specs.declared.fault.TestFault.{TestFault}
use Rattle.fisca_test_file.specs.declared.fault.TestKind.{TestKind}
use Rattle.fisca_test_file.specs.declared.fault.TestKind.TheVariants.{BadTest, UseReform}
use Rattle.fisca_test_file.specs.declared.margins.Margins.{Margins}
use Rattle.fisca_test_file.specs.Tests.{Test}

-- Keys

abbrev pub is_text : Node → Bool
is_text n = is_some (as_text n)

-- a number from 0 up
abbrev pub if_margin : Number → Option Number
if_margin v = if is_negative v.numerator then None else Some v

abbrev pub margin_in : Node → Option Number
margin_in n = option_and_then if_margin (as_number n)

abbrev pub is_margin : Node → Bool
is_margin n = is_some (margin_in n)

-- What stands at `input` and `output` is judged later; keywords and descriptions say nothing here. There is no other key.
abbrev pub is_accepted : List ℕ → Node → Bool
is_accepted key n =
    if bytes_eq key (codes "output") then true
    else (if bytes_eq key (codes "input") then true
    else (if bytes_eq key (codes "period") then is_some (period_in n)
    else (if bytes_eq key (codes "name") then is_text n
    else (if bytes_eq key (codes "absolute_error_margin") then is_margin n
    else (if bytes_eq key (codes "relative_error_margin") then is_margin n
    else (if bytes_eq key (codes "keywords") then are_texts n
    else (if bytes_eq key (codes "only_variables") then are_texts n
    else (if bytes_eq key (codes "ignore_variables") then are_texts n
    else (bytes_eq key (codes "description") && is_text n)))))))))

-- reforms and extensions are folders here, which the program takes
abbrev pub kind_of_key : List ℕ → TestKind
kind_of_key key = if bytes_eq key (codes "reforms") then UseReform else (if bytes_eq key (codes "extensions") then UseReform else BadTest)

-- the first key that is not accepted is told of its line
abbrev pub keys_checked : Entries → Result (Unit {0}) TestFault
keys_checked no_entries = Ok tt
keys_checked (entry key line n es) = if is_accepted key n then keys_checked es else fault_at line (kind_of_key key)

-- the first line of a test; of a map without keys the one that is given
abbrev pub first_line : ℕ → Node → ℕ
first_line line n = unwrap_or (begins_on n) line

-- a test has outputs
abbrev pub output_checked : ℕ → Node → Result (Unit {0}) TestFault
output_checked line n = if is_some (get (codes "output") n) then Ok tt else fault_at (first_line line n) BadTest

-- what is no map is told of the line of its scalar, or of its item
abbrev pub shape_checked : ℕ → Node → Result (Unit {0}) TestFault
shape_checked line null = fault_at line BadTest
shape_checked line (scalar t q l) = fault_at l BadTest
shape_checked line (list is) = fault_at line BadTest
shape_checked line (map es) = and_then (keys_checked es) (λ u. output_checked line (map es))

-- A test

-- an absent input is one person of whom nothing is said
abbrev pub situation_in : Tables → ℕ → Node → Result Situation TestFault
situation_in c line n =
    situation_told (situation_of c (default_in n) (line_at (codes "input") (first_line line n) n) (unwrap_or (get (codes "input") n) null))

abbrev pub outputs_in : Tables → List EntityMembers → ℕ → Node → Result (List Output) TestFault
outputs_in c ms line n = outputs_told (outputs_of c ms (default_in n) (line_at (codes "output") line n) (unwrap_or (get (codes "output") n) null))

abbrev pub name_in : Node → Option (List ℕ)
name_in n = option_and_then as_text (get (codes "name") n)

abbrev pub margin_at : List ℕ → Node → Option Number
margin_at key n = option_and_then margin_in (get key n)

abbrev pub margins_in : Node → Margins
margins_in n = record { absolute = margin_at (codes "absolute_error_margin") n; relative = margin_at (codes "relative_error_margin") n }

-- the values of the variables that are compared
abbrev pub tested_outputs : Tables → Node → List Output → List Output
tested_outputs c n os = filter (λ o. is_tested c (get (codes "only_variables") n) (get (codes "ignore_variables") n) o.0.variable) os

unfoldable pub test_by : Tables → ℕ → Node → Situation → Result Test TestFault
test_by c line n s =
    and_then (outputs_in c s.members line n) (λ os. Ok (record { name = name_in n; situation = s; margins = margins_in n; outputs = tested_outputs c n os }))

-- of an item on the line
unfoldable pub test_of : Tables → ℕ → Node → Result Test TestFault
test_of c line n = and_then (shape_checked line n) (λ u. and_then (situation_in c line n) (test_by c line n))

-- The file

-- the tests so far, and those of these items
abbrev pub tests_from : Tables → List Test → Items → Result (List Test) TestFault
tests_from c ts no_items = Ok ts
tests_from c ts (item line n is) = and_then (test_of c line n) (λ t. tests_from c (ts ++ t ∷ []) is)

abbrev pub only_test : Tables → Node → Result (List Test) TestFault
only_test c n = and_then (test_of c 1 n) (λ t. Ok (t ∷ []))

-- what is no list is the only test
unfoldable pub tests_of : Tables → Node → Result (List Test) TestFault
tests_of c null = only_test c null
tests_of c (scalar t q l) = only_test c (scalar t q l)
tests_of c (list is) = tests_from c [] is
tests_of c (map es) = only_test c (map es)
