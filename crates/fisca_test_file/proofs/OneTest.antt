-- What is told of a test that was read.
use Rattle.std.proofs.Common.{◌≡◌, ◌∙◌, ℕ, ap, ap₂, subst, Bool, List}
use Rattle.std.specs.Prelude.{IfErr, IfOk, OnErr, OnOk, Option, Result, Ok, Err}
use Rattle.std.specs.Io.KnownBytes.{Appends}
use Rattle.fisca_expected.specs.Outputs.{Output}
use Rattle.fisca_groups.specs.declared.entity_members.EntityMembers.{EntityMembers}
use Rattle.fisca_model.specs.Tables.{Tables}
use Rattle.fisca_model.specs.declared.key.Key.{Key}
use Rattle.fisca_model.specs.declared.value.Value.{Value}
use Rattle.fisca_situations.specs.Situations.{Situation}
use Rattle.fisca_test_file.specs.Handing.{AppendsSome, IsCut, IsStopped, IsTestHanded}
use Rattle.fisca_test_file.specs.Report.{TestContext, passes, test_context, test_context_of, test_text, verdict_text}
use Rattle.fisca_test_file.specs.Tests.{Test}
use Rattle.fisca_test_file.specs.declared.fault.TestFault.{TestFault}
use Rattle.fisca_test_file.specs.declared.report_fault.ReportFault.{ReportFault}
use Rattle.fisca_test_file.specs.declared.report_fault.ReportFault.TheVariants.{Tests, Write}

module _ {F : Type 0} (c : Tables) (answer_in : Situation → Key → Result Value F) (name : F → List ℕ) (key : F → Option Key) (outcome : Result Test TestFault) (t : Test) (number : ℕ)
    (answer : Key → Result Value F) (ms : List EntityMembers) (os : List Output) (old new : Option (List ℕ)) where
  abbrev pub there : Test → TestContext F
  there = test_context_of c answer_in name key

  -- the answers, the members and the outputs are the test's
  abbrev pub AreOf : Type 0
  AreOf = (answer ≡ answer_in t.situation) × (ms ≡ t.situation.members) × (os ≡ t.outputs)

  same_context : AreOf → test_context c ms answer name key ≡ there t
  same_context are = ap₂ (λ ms answer. test_context c ms answer name key) are.1 are.0

  same_text : AreOf → verdict_text (test_context c ms answer name key) number t.name t.margins os ≡ test_text there number t
  same_text are = ap₂ (λ s os. verdict_text s number t.name t.margins os) (same_context are) are.2

  same_verdict : AreOf → passes (test_context c ms answer name key) t.margins os ≡ passes (there t) t.margins t.outputs
  same_verdict are = ap₂ (λ s os. passes s t.margins os) (same_context are) are.2

  begun_of : outcome ≡ Ok t → AreOf → AppendsSome (verdict_text (test_context c ms answer name key) number t.name t.margins os) old new
      → (u : Test) → outcome ≡ Ok u → AppendsSome (test_text there number u) old new
  begun_of read are part u is =
      let first : outcome ≡ Ok t = read in
      let same : t ≡ u = cc in
      subst (λ v. AppendsSome (test_text there number v) old new) same (subst (λ x. AppendsSome x old new) (same_text are) part)

  pub test_told : outcome ≡ Ok t → AreOf → (r : Result Bool ReportFault) → IfOk r (λ b. b ≡ passes (test_context c ms answer name key) t.margins os)
      → OnOk r (Appends old new (verdict_text (test_context c ms answer name key) number t.name t.margins os)) → IfOk r (IsTestHanded there outcome number old new)
  test_told read are (Ok b) passed w = (t, read, passed ∙ same_verdict are, subst (Appends old new) (same_text are) w)
  test_told read are (Err e) passed w = tt

  stopped_at : outcome ≡ Ok t → AreOf → (e : ReportFault) → IsCut e → AppendsSome (verdict_text (test_context c ms answer name key) number t.name t.margins os) old new
      → IsStopped outcome (λ u. AppendsSome (test_text there number u) old new) e
  stopped_at read are (Tests fault) cut part = ((λ other. absurd (other cut.0), λ is. cut.1), begun_of read are part)
  stopped_at read are Write cut part = begun_of read are part

  pub test_stopped : outcome ≡ Ok t → AreOf → (r : Result Bool ReportFault) → IfErr r IsCut
      → OnErr r (AppendsSome (verdict_text (test_context c ms answer name key) number t.name t.margins os) old new)
      → IfErr r (IsStopped outcome (λ u. AppendsSome (test_text there number u) old new))
  test_stopped read are (Ok b) cut part = tt
  test_stopped read are (Err e) cut part = stopped_at read are e cut part
