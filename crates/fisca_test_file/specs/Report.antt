-- What `fisca test` prints: for each test whether it passed, with a line for each output that failed, and last how many passed and failed.
use Rattle.std.specs.Prelude.{◌≡◌, ℕ, ◌+◌, List, [], ◌∷◌, ◌++◌, count_by, Bool, true, false, not, if◌then◌else◌, Option, Some, None, Result, Ok, codes}
use Rattle.std.specs.Fmt.{decimal}
use Rattle.std.specs.List.{flat_map, list_all}
use Rattle.fisca_columns.specs.Texts.{key_text, value_text}
use Rattle.fisca_model.specs.declared.value.Value.{Value}
use Rattle.fisca_model.specs.declared.key.Key.{Key}
use Rattle.fisca_groups.specs.declared.entity_members.EntityMembers.{EntityMembers}
use Rattle.fisca_expected.specs.Outputs.{Output}
use Rattle.fisca_situations.specs.Situations.{Situation}
use Rattle.fisca_model.specs.Tables.{Tables}
use Rattle.fisca_test_file.specs.Tests.{Test}
use Rattle.fisca_test_file.specs.Steps.Verdicts.{is_passed, outcome_of}
use Rattle.fisca_test_file.specs.declared.all.Verdict.{Verdict}
use Rattle.fisca_test_file.specs.declared.margins.Margins.{Margins}
use Rattle.fisca_test_file.specs.declared.outcome.Outcome.{Outcome}
use Rattle.fisca_test_file.specs.declared.outcome.Outcome.TheVariants.{Passed, Missed, TooWide, Faulted}

-- An output

-- the variable, the member's name and the period, with single spaces between them
abbrev pub key_said : Tables → List EntityMembers → Key → List ℕ
key_said c ms k = key_text (codes " ") c ms k

abbrev pub behind_name : Tables → List EntityMembers → Option Key → List ℕ
behind_name c ms None = []
behind_name c ms (Some k) = codes " " ++ key_said c ms k

-- the name of a fault, and its key if it has one
abbrev pub fault_said : Tables → List EntityMembers → List ℕ → Option Key → List ℕ
fault_said c ms name key = name ++ behind_name c ms key

abbrev pub values_said : Tables → ℕ → Value → Value → List ℕ
values_said c variable expected got =
    codes "expected " ++ (value_text c variable expected ++ (codes ", got " ++ value_text c variable got))

-- the line of an output that failed
abbrev pub failed_head : Tables → List EntityMembers → Key → List ℕ
failed_head c ms k = codes "  " ++ (key_said c ms k ++ codes ": ")

abbrev pub failed_line : Tables → List EntityMembers → Key → List ℕ → List ℕ
failed_line c ms k why = failed_head c ms k ++ (why ++ codes "\n")

-- where a test is worked out: what is declared, the members, the answer of each key, and the name and the key of each fault
pub record TestContext (F : Type 0) : Type 0 where
  pub tables : Tables
  pub members : List EntityMembers
  pub answer : Key → Result Value F
  pub fault_name : F → List ℕ
  pub fault_key : F → Option Key

abbrev pub test_context : {F : Type 0} → Tables → List EntityMembers → (Key → Result Value F) → (F → List ℕ) → (F → Option Key) → TestContext F
test_context c ms answer name key = record { tables = c; members = ms; answer = answer; fault_name = name; fault_key = key }

-- nothing of one that passed
abbrev pub outcome_line : {F : Type 0} → Tables → List EntityMembers → (F → List ℕ) → (F → Option Key) → Output → Outcome F → List ℕ
outcome_line c ms name key o Passed = []
outcome_line c ms name key o (Missed got) = failed_line c ms o.0 (values_said c o.0.variable o.1 got)
outcome_line c ms name key o TooWide = failed_line c ms o.0 (codes "TooWide")
outcome_line c ms name key o (Faulted f) = failed_line c ms o.0 (fault_said c ms (name f) (key f))

abbrev pub outcome_in : {F : Type 0} → TestContext F → Margins → Output → Outcome F
outcome_in s m o = outcome_of m o.1 (s.answer o.0)

abbrev pub output_line : {F : Type 0} → TestContext F → Margins → Output → List ℕ
output_line s m o = outcome_line s.tables s.members s.fault_name s.fault_key o (outcome_in s m o)

abbrev pub output_passes : {F : Type 0} → TestContext F → Margins → Output → Bool
output_passes s m o = is_passed (outcome_in s m o)

abbrev pub output_lines : {F : Type 0} → TestContext F → Margins → List Output → List ℕ
output_lines s m os = flat_map (output_line s m) os

-- A test

-- all its outputs pass
abbrev pub passes : {F : Type 0} → TestContext F → Margins → List Output → Bool
passes s m os = list_all (output_passes s m) os

-- tests are counted from 1, and one without a name is called by its number
abbrev pub title : ℕ → Option (List ℕ) → List ℕ
title number None = codes "test " ++ decimal number
title number (Some name) = name

abbrev pub head_line : Bool → ℕ → Option (List ℕ) → List ℕ
head_line passed number name = (if passed then codes "ok " else codes "failed ") ++ (title number name ++ codes "\n")

abbrev pub verdict_text : {F : Type 0} → TestContext F → ℕ → Option (List ℕ) → Margins → List Output → List ℕ
verdict_text s number name m os = head_line (passes s m os) number name ++ output_lines s m os

-- All tests, each where it is worked out: in its own situation

abbrev pub test_context_of : {F : Type 0} → Tables → (Situation → Key → Result Value F) → (F → List ℕ) → (F → Option Key) → Test → TestContext F
test_context_of c answer name key t = test_context c t.situation.members (answer t.situation) name key

abbrev pub test_passes : {F : Type 0} → (Test → TestContext F) → Test → Bool
test_passes test_context t = passes (test_context t) t.margins t.outputs

abbrev pub test_text : {F : Type 0} → (Test → TestContext F) → ℕ → Test → List ℕ
test_text test_context number t = verdict_text (test_context t) number t.name t.margins t.outputs

abbrev pub tests_text : {F : Type 0} → (Test → TestContext F) → ℕ → List Test → List ℕ
tests_text test_context number [] = []
tests_text test_context number (t ∷ ts) = test_text test_context number t ++ tests_text test_context (number + 1) ts

abbrev pub counts_text : ℕ → ℕ → List ℕ
counts_text passed failed = codes "passed " ++ (decimal passed ++ (codes ", failed " ++ (decimal failed ++ codes "\n")))

abbrev pub passed_of : {F : Type 0} → (Test → TestContext F) → List Test → ℕ
passed_of test_context ts = count_by (test_passes test_context) ts

abbrev pub failed_of : {F : Type 0} → (Test → TestContext F) → List Test → ℕ
failed_of test_context ts = count_by (λ t. not (test_passes test_context t)) ts

-- one test more
abbrev pub counted : Bool → Verdict → Verdict
counted true v = record { passed = v.passed + 1; failed = v.failed }
counted false v = record { passed = v.passed; failed = v.failed + 1 }

abbrev pub report_text : {F : Type 0} → (Test → TestContext F) → List Test → List ℕ
report_text test_context ts = tests_text test_context 1 ts ++ counts_text (passed_of test_context ts) (failed_of test_context ts)
