-- A file of tests that is accepted is told as one.
use Rattle.std.proofs.Common.{◌≡◌, ℕ, List, Option, Result, Ok, Err, ap, ap₂, subst, ◌∙◌, inl, inr}
use Rattle.std.specs.Prelude.{◌⊎◌}
use Rattle.std.specs.Io.KnownBytes.{Appends, Keeps}
use Rattle.fisca_commands.specs.Test.{IsTest, IsTested, IsTesting, RefusesTesting, Testing, test_context_in}
use Rattle.fisca_params.specs.Source.{Source}
use Rattle.fisca_api.proofs.Alike.{same_context}
use Rattle.fisca_api.proofs.Once.{accepted_once, memory_of_files, memory_of_tests_text, tests_once}
use Rattle.fisca_api.specs.Alike.{AreAlike}
use Rattle.fisca_rule_files.specs.declared.refusal.Refusal.{Refusal}
use Rattle.fisca_rule_files.specs.declared.refusal.Refusal.TheVariants.{Memory}
use Rattle.fisca_rules.specs.Views.{rule_set}
use Rattle.fisca_test_file.specs.Report.{failed_of, passed_of, report_text}
use Rattle.fisca_test_file.specs.declared.all.Verdict.{Verdict}
use Rattle.fisca_writer.specs.Run.{AppendsPart}

memory_of_testing : (files : List Source) (text : List ℕ) (name : Option (List ℕ)) (t : Testing) (refusal : Refusal) → IsTesting files text name t → RefusesTesting files text name refusal → refusal ≡ Memory
memory_of_testing files text name t refusal own (inl refused) = memory_of_files files (rule_set t.rules) refusal own.0 refused
memory_of_testing files text name t refusal own (inr refused) =
    memory_of_tests_text refused.0 t.rules (accepted_once files (rule_set refused.0) (rule_set t.rules) refused.1 own.0) text refusal name t.tests own.1 refused.2

module _ (files : List Source) (text : List ℕ) (name : Option (List ℕ)) (t u : Testing) (own : IsTesting files text name t) (other : IsTesting files text name u) where
  alike : AreAlike u.rules t.rules
  alike = accepted_once files (rule_set u.rules) (rule_set t.rules) other.0 own.0

  tests : u.tests ≡ t.tests
  tests = tests_once u.rules t.rules alike text name u.tests t.tests other.1 own.1

  pub same_report : report_text (test_context_in u.rules) u.tests ≡ report_text (test_context_in t.rules) t.tests
  same_report = ap₂ report_text (same_context u.rules t.rules alike) tests

  tested_alike : (old new : Option (List ℕ)) (answer : Result Verdict Refusal) → IsTested u old new answer → IsTested t old new answer
  tested_alike old new (Ok verdict) is = (
    is.0 ∙ ap₂ passed_of (same_context u.rules t.rules alike) tests,
    is.1 ∙ ap₂ failed_of (same_context u.rules t.rules alike) tests,
    subst (λ report. Appends old new report) same_report is.2,
  )
  tested_alike old new (Err refusal) is = (is.0, subst (λ report. AppendsPart report old new) same_report is.1)

pub test_told : (files : List Source) (text : List ℕ) (name : Option (List ℕ)) (t : Testing) → IsTesting files text name t → (old new : Option (List ℕ)) (answer : Result Verdict Refusal)
    → IsTest files text name old new answer → IsTested t old new answer ⊎ ((answer ≡ Err Memory) × Keeps old new)
test_told files text name t own old new answer (inl is) = inr (is.1 ∙ ap Err (memory_of_testing files text name t is.0 own is.2), is.3)
test_told files text name t own old new answer (inr is) = inl (tested_alike files text name t is.0 own is.1 old new answer is.2)
