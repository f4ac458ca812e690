-- What `fisca test` answers and writes.
use Rattle.std.specs.Prelude.{◌≡◌, ◌≢◌, ◌⊎◌, ℕ, List, [], Option, Some, Result, Ok, Err}
use Rattle.std.specs.Io.KnownBytes.{Appends, Keeps}
use Rattle.fisca_model.specs.EvalFaults.{name_of}
use Rattle.fisca_simulation.specs.Told.{told_in}
use Rattle.fisca_model.specs.declared.eval_fault.EvalFault.{EvalFault}
use Rattle.fisca_writer.specs.Run.{AppendsPart}
use Rattle.fisca_params.specs.Source.{Source}
use Rattle.fisca_rule_files.specs.declared.refusal.Refusal.{Refusal}
use Rattle.fisca_rule_files.specs.declared.refusal.Refusal.TheVariants.{Tests, Write, Memory}
use Rattle.fisca_rule_files.specs.RuleFiles.{IsAccepted, RefusesFiles}
use Rattle.fisca_rules.specs.Views.{rule_set}
use Rattle.fisca_rules.specs.declared.rule_set.RuleSet.{RuleSet}
use Rattle.fisca_run.specs.Named.{named}
use Rattle.fisca_situations.specs.Situations.{Situation}
use Rattle.fisca_simulation.specs.Simulations.{Simulation}
use Rattle.fisca_symbols.specs.Known.{tables as known}
use Rattle.fisca_test_file.specs.KeyFaults.{key_told}
use Rattle.fisca_test_file.specs.Report.{TestContext, failed_of, passed_of, report_text, test_context_of}
use Rattle.fisca_test_file.specs.Tests.{Test}
use Rattle.fisca_test_file.specs.Steps.Tests.{tests_of}
use Rattle.fisca_test_file.specs.declared.all.Verdict.{Verdict}
use Rattle.fisca_test_file.specs.declared.fault.TestFault.{TestFault}
use Rattle.fisca_test_file.specs.declared.fault.TestKind.TheVariants as kind
use Rattle.fisca_yaml.specs.Grouping.{document}
use Rattle.fisca_yaml.specs.Node.{Node}
use Rattle.fisca_grid_run.specs.Yaml.{IsYamlRefused}

-- a rule set, as it stands in memory, and the tests that a file says under it
pub record Testing : Type 0 where
  pub rules : RuleSet
  pub tests : List Test

-- the text is YAML, and a file that says these tests of the name under the rule set
abbrev pub SaysTests : RuleSet → List ℕ → Option (List ℕ) → List Test → Type 0
SaysTests rules text name tests = (n : Node) × (document text ≡ Some n) × (tests_of rules.tables (named name n) ≡ Ok tests)

-- the files make the rule set, and the text says the tests of the name under it
abbrev pub IsTesting : List Source → List ℕ → Option (List ℕ) → Testing → Type 0
IsTesting files text name t = IsAccepted files (rule_set t.rules) × SaysTests t.rules text name t.tests

-- where the values of a test are worked out; no variable is neutralised
abbrev pub simulation_in : RuleSet → Situation → Simulation
simulation_in rules s = record { rules = rule_set rules; situation = s; neutral = [] }

-- each key of a test has the value that the rules define in the test's situation, or the fault for which it has none
abbrev pub test_context_in : RuleSet → Test → TestContext EvalFault
test_context_in rules = test_context_of (known rules.tables) (λ s. told_in (simulation_in rules s)) name_of key_told

-- what is answered once it is known which tests there are: how many pass and fail, and their report is written; or the sink failed, or memory was
-- refused, and a proper beginning of it is written
abbrev pub IsTested : Testing → Option (List ℕ) → Option (List ℕ) → Result Verdict Refusal → Type 0
IsTested t old new (Ok verdict) =
    (verdict.passed ≡ passed_of (test_context_in t.rules) t.tests) × (verdict.failed ≡ failed_of (test_context_in t.rules) t.tests) × Appends old new (report_text (test_context_in t.rules) t.tests)
IsTested t old new (Err refusal) = ((refusal ≡ Write) ⊎ (refusal ≡ Memory)) × AppendsPart (report_text (test_context_in t.rules) t.tests) old new

-- the tree is refused as a file of tests, or memory was refused
abbrev pub RefusesTree : RuleSet → Node → Refusal → Type 0
RefusesTree rules n refusal = (refusal ≡ Memory) ⊎ ((fault : TestFault) × (refusal ≡ Tests fault) × (fault.kind ≢ kind.Memory) × (tests_of rules.tables n ≡ Err fault))

-- what is answered for a tree: it is refused and nothing is written, or its tests are worked out in order
abbrev pub IsTreeTested : RuleSet → Node → Option (List ℕ) → Option (List ℕ) → Result Verdict Refusal → Type 0
IsTreeTested rules n old new answer =
    ((refusal : Refusal) × (answer ≡ Err refusal) × RefusesTree rules n refusal × Keeps old new)
    ⊎ ((ts : List Test) × (tests_of rules.tables n ≡ Ok ts) × IsTested (record { rules = rules; tests = ts }) old new answer)

-- the text is refused under a rule set: it is no YAML, else no file of tests of the name; or memory was refused
abbrev pub RefusesTests : RuleSet → List ℕ → Option (List ℕ) → Refusal → Type 0
RefusesTests rules text name refusal = IsYamlRefused text refusal ⊎ ((n : Node) × (document text ≡ Some n) × RefusesTree rules (named name n) refusal)

-- the first reason for which nothing is worked out is told: the files are refused, else the text
abbrev pub RefusesTesting : List Source → List ℕ → Option (List ℕ) → Refusal → Type 0
RefusesTesting files text name refusal =
    RefusesFiles files refusal ⊎ ((rules : RuleSet) × IsAccepted files (rule_set rules) × RefusesTests rules text name refusal)

-- what `test` answers for these files, this text and the text that names have, if there is one, and what a sink that held `old` then holds: they are
-- refused and nothing is written, or the tests of the name are worked out in order
abbrev pub IsTest : List Source → List ℕ → Option (List ℕ) → Option (List ℕ) → Option (List ℕ) → Result Verdict Refusal → Type 0
IsTest files text name old new answer =
    ((refusal : Refusal) × (answer ≡ Err refusal) × RefusesTesting files text name refusal × Keeps old new)
    ⊎ ((t : Testing) × IsTesting files text name t × IsTested t old new answer)
