-- What is known of the tests of a file once it is read: each is worked out in a situation whose inputs are of their types.
use Rattle.std.proofs.Common.{◌≡◌, ◌≢◌, ◌∙◌, ℕ, List, Ok, Err, inl, inr, refl, sym}
use Rattle.fisca_simulation.specs.Told.{IsReady}
use Rattle.fisca_params.specs.Source.{Source}
use Rattle.fisca_params.specs.Tree.{TreeNode}
use Rattle.fisca_rule_files.proofs.Built.{built}
use Rattle.fisca_rule_files.specs.RuleFiles.{IsAccepted}
use Rattle.std.specs.Prelude.{◌⊎◌, Option}
use Rattle.std.specs.Io.KnownBytes.{Keeps}
use Rattle.fisca_rules.specs.Rules.{Rules}
use Rattle.fisca_rules.specs.Steps.Rules.{rules_of}
use Rattle.fisca_rules.specs.Views.{rule_set}
use Rattle.fisca_rules.specs.declared.rule_set.RuleSet.{RuleSet}
use Rattle.fisca_situations.specs.Situations.{Situation}
use Rattle.fisca_situations.specs.Steps.Situations.{situation_of}
use Rattle.fisca_simulation.specs.Sound.{InputsFit, IsSafeRules}
use Rattle.fisca_ast.specs.Modules.{Statement}
use Rattle.fisca_time.specs.Period.{Span}
use Rattle.fisca_test_file.specs.Read.{IsRead}
use Rattle.fisca_yaml.specs.Node.{Node}
use Rattle.fisca_test_file.specs.Handing.{IsPartOf, IsReported}
use Rattle.fisca_test_file.specs.Steps.Tests.{tests_of}
use Rattle.fisca_test_file.specs.declared.fault.TestFault.{TestFault}
use Rattle.fisca_test_file.specs.declared.fault.TestKind.TheVariants as kind
use Rattle.fisca_test_file.specs.declared.report_fault.ReportFault.TheVariants as report
use Rattle.fisca_test_file.specs.declared.all.Verdict.{Verdict}
use Rattle.fisca_rule_files.specs.declared.refusal.Refusal.{Refusal}
use Rattle.fisca_rule_files.specs.declared.refusal.Refusal.TheVariants.{Tests, Write, Memory}
use Rattle.fisca_commands.specs.Test.{IsTreeTested, test_context_in, simulation_in}

-- what an evaluator needs is known of each test that was read
pub ready : (files : List Source) (rules : RuleSet)
    → ((nodes : List TreeNode) (ms : List (List Statement)) (r : Rules) → rules_of nodes ms ≡ Ok r → IsSafeRules r)
    → ((rules : RuleSet) → IsSafeRules (rule_set rules) → (default : Option Span) (line : ℕ) (n : Node) (s : Situation) → situation_of rules.tables default line n ≡ Ok s → InputsFit (rule_set rules) s)
    → IsAccepted files (rule_set rules) → (s : Situation) → IsRead rules.tables s → IsReady (simulation_in rules s)
ready files rules safe fit accepted s from =
    let made = built files (rule_set rules) accepted in
    let is_safe = safe made.0 made.1.0 (rule_set rules) made.1.1 in
    record { safe = is_safe; fit = fit rules is_safe from.default from.line from.input _ from.is }

err_ok : {X : Type 0} {f : TestFault} {x : X} → Err f ≡ Ok x → ⊥
err_ok e = cc

-- what is answered for a report that was handed over
module _ (rules : RuleSet) (n : Node) (old new : Option (List ℕ)) where
  part_tested : (refusal : Refusal) → (refusal ≡ Write) ⊎ (refusal ≡ Memory) → IsPartOf (test_context_in rules) (tests_of rules.tables n) old new → IsTreeTested rules n old new (Err refusal)
  part_tested refusal which is = inr (is.0, is.1, (which, is.2))

  pub ok_tested : (verdict : Verdict) → IsReported (test_context_in rules) (tests_of rules.tables n) old new (Ok verdict) → IsTreeTested rules n old new (Ok verdict)
  ok_tested verdict is = inr (is.0, is.1, (is.2, is.3, is.4))

  pub write_tested : IsReported (test_context_in rules) (tests_of rules.tables n) old new (Err report.Write) → IsTreeTested rules n old new (Err Write)
  write_tested is = part_tested Write (inl refl) is

  memory_told : (fault : TestFault) → Keeps old new ⊎ IsPartOf (test_context_in rules) (tests_of rules.tables n) old new → IsTreeTested rules n old new (Err Memory)
  memory_told fault (inl keeps) = inl (Memory, refl, inl refl, keeps)
  memory_told fault (inr is) = part_tested Memory (inr refl) is

  pub memory_tested : (fault : TestFault) → IsReported (test_context_in rules) (tests_of rules.tables n) old new (Err (report.Tests fault)) → IsTreeTested rules n old new (Err Memory)
  memory_tested fault is = memory_told fault is.1

  fault_told : (fault : TestFault) → fault.kind ≢ kind.Memory → tests_of rules.tables n ≡ Err fault → Keeps old new ⊎ IsPartOf (test_context_in rules) (tests_of rules.tables n) old new
      → IsTreeTested rules n old new (Err (Tests fault))
  fault_told fault other told (inl keeps) = inl (Tests fault, refl, inr (fault, refl, other, told), keeps)
  fault_told fault other told (inr is) = absurd (err_ok (sym told ∙ is.1))

  pub fault_tested : (fault : TestFault) → fault.kind ≢ kind.Memory → IsReported (test_context_in rules) (tests_of rules.tables n) old new (Err (report.Tests fault)) → IsTreeTested rules n old new (Err (Tests fault))
  fault_tested fault other is = fault_told fault other (is.0.0 other) is.1
