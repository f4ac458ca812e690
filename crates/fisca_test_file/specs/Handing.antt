-- A report that is handed over as it is made: what is answered, and what a sink has of it then.
use Rattle.std.specs.Prelude.{◌≡◌, ◌⊎◌, ℕ, List, ◌++◌, codes, Bool, true, false, Option, Result, Ok, Err}
use Rattle.std.specs.Io.KnownBytes.{Appends, Keeps}
use Rattle.fisca_model.specs.declared.value.Value.{Value}
use Rattle.fisca_model.specs.declared.key.Key.{Key}
use Rattle.fisca_groups.specs.declared.entity_members.EntityMembers.{EntityMembers}
use Rattle.fisca_situations.specs.Situations.{Situation}
use Rattle.fisca_symbols.specs.declared.tables.Tables.{Tables}
use Rattle.fisca_writer.specs.Run.{AppendsPart}
use Rattle.fisca_yaml.specs.Node.{Node}
use Rattle.fisca_test_file.specs.Faults as faults
use Rattle.fisca_test_file.specs.Outcomes.{Fails}
use Rattle.fisca_test_file.specs.Report.{TestContext, failed_of, passed_of, report_text, test_passes, test_text, tests_text}
use Rattle.fisca_test_file.specs.Steps.Tests.{situation_in}
use Rattle.fisca_test_file.specs.Tests.{Test}
use Rattle.fisca_test_file.specs.declared.all.Verdict.{Verdict}
use Rattle.fisca_test_file.specs.declared.fault.TestFault.{TestFault}
use Rattle.fisca_test_file.specs.declared.fault.TestKind.TheVariants.{Memory}
use Rattle.fisca_test_file.specs.declared.report_fault.ReportFault.{ReportFault}
use Rattle.fisca_test_file.specs.declared.report_fault.ReportFault.TheVariants.{Tests, Write}

-- Why there is none, or not all of it

abbrev pub number_of : ReportFault → ℕ
number_of (Tests fault) = 1
number_of Write = 2

-- of tests the name of their own fault
abbrev pub name_of : ReportFault → List ℕ
name_of (Tests fault) = faults.name_of fault.kind
name_of Write = codes "Write"

-- the answer is that the sink failed
abbrev pub is_write : {X : Type 0} → Result X ReportFault → Bool
is_write (Ok x) = false
is_write (Err (Tests fault)) = false
is_write (Err Write) = true

-- memory was refused
abbrev pub memory_refused : ReportFault
memory_refused = Tests (record { line = 0; kind = Memory })

-- memory was refused, or the sink failed
abbrev pub IsCut : ReportFault → Type 0
IsCut (Tests fault) = (fault.kind ≡ Memory) × (fault.line ≡ 0)
IsCut Write = Unit {0}

-- What a sink has

-- a beginning of the text, and perhaps all of it
abbrev pub AppendsSome : List ℕ → Option (List ℕ) → Option (List ℕ) → Type 0
AppendsSome text old new = (part : List ℕ) × (rest : List ℕ) × (text ≡ part ++ rest) × Appends old new part

-- what is told where a text ends before its end: the fault of this outcome, or else memory was refused or the sink failed, and so much of the text
-- is there that it would have
abbrev pub IsStopped : {X : Type 0} → Result X TestFault → (X → Type 0) → ReportFault → Type 0
IsStopped outcome is_there (Tests fault) = Fails outcome fault × ((x : _) → outcome ≡ Ok x → is_there x)
IsStopped outcome is_there Write = (x : _) → outcome ≡ Ok x → is_there x

-- the test that this outcome has is told, as the one of this number, and whether it passed
abbrev pub IsTestHanded : {F : Type 0} → (Test → TestContext F) → Result Test TestFault → ℕ → Option (List ℕ) → Option (List ℕ) → Bool → Type 0
IsTestHanded test_context outcome number old new passed =
    (t : Test) × (outcome ≡ Ok t) × (passed ≡ test_passes test_context t) × Appends old new (test_text test_context number t)

-- the tests that this outcome has are told behind what was there, and so many pass and fail
abbrev pub AreHanded : {F : Type 0} → (Test → TestContext F) → Result (List Test) TestFault → Option (List ℕ) → Option (List ℕ) → Verdict → Type 0
AreHanded test_context outcome old new v =
    (ts : List Test) × (outcome ≡ Ok ts) × (v.passed ≡ passed_of test_context ts) × (v.failed ≡ failed_of test_context ts) × Appends old new (tests_text test_context 1 ts)

-- the whole report, in memory or handed over
abbrev pub IsReport : {F : Type 0} → (Test → TestContext F) → Result (List Test) TestFault → Verdict → List ℕ → Type 0
IsReport test_context outcome v text =
    (ts : List Test) × (outcome ≡ Ok ts) × (v.passed ≡ passed_of test_context ts) × (v.failed ≡ failed_of test_context ts) × (text ≡ report_text test_context ts)

abbrev pub IsHanded : {F : Type 0} → (Test → TestContext F) → Result (List Test) TestFault → Option (List ℕ) → Option (List ℕ) → Verdict → Type 0
IsHanded test_context outcome old new v =
    (ts : List Test) × (outcome ≡ Ok ts) × (v.passed ≡ passed_of test_context ts) × (v.failed ≡ failed_of test_context ts) × Appends old new (report_text test_context ts)

-- What a report answers: the whole report is there; or nothing, and the fault of the file or that memory was refused is told; or a proper beginning of
-- it, where memory was refused or the sink failed
abbrev pub IsPartOf : {F : Type 0} → (Test → TestContext F) → Result (List Test) TestFault → Option (List ℕ) → Option (List ℕ) → Type 0
IsPartOf test_context outcome old new = (ts : List Test) × (outcome ≡ Ok ts) × AppendsPart (report_text test_context ts) old new

abbrev pub IsReported : {F : Type 0} → (Test → TestContext F) → Result (List Test) TestFault → Option (List ℕ) → Option (List ℕ) → Result Verdict ReportFault → Type 0
IsReported test_context outcome old new (Ok v) = IsHanded test_context outcome old new v
IsReported test_context outcome old new (Err (Tests fault)) = Fails outcome fault × (Keeps old new ⊎ IsPartOf test_context outcome old new)
IsReported test_context outcome old new (Err Write) = IsPartOf test_context outcome old new

-- Where a test is worked out

-- these are the answers and the members of the situation of the test that stands there, in which keys may be asked for
abbrev pub AreAnswersOf : {F : Type 0} → (Situation → Key → Result Value F) → (Situation → Type 0) → Tables → ℕ → Node → (Key → Result Value F) → List EntityMembers → Type 0
AreAnswersOf answer_in fits c line n answer members =
    (s : Situation) → situation_in c line n ≡ Ok s → (answer ≡ answer_in s) × (members ≡ s.members) × fits s
