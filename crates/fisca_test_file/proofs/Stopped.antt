-- A report that ends before its end.
use Rattle.std.proofs.Common.{◌≡◌, ◌≢◌, ◌∙◌, ℕ, ◌+◌, ◌<◌, ap, ap₂, refl, subst, sym, arith, inl, inr, List, [], ◌∷◌, ◌++◌, length, codes, append_assoc, append-nil}
use Rattle.std.specs.Fmt.{decimal}
use Rattle.std.specs.Io.KnownBytes.{Appends, Keeps}
use Rattle.std.specs.Prelude.{◌⊎◌, IfErr, IfOk, Option, Result, Ok, Err}
use Rattle.std.proofs.KnownBytes.{Appends-trans}
use Rattle.std.proofs.lemmas.List.{length-append}
use Rattle.fisca_inputs.proofs.Typed.{then_ok}
use Rattle.fisca_num.specs.Results.{and_then}
use Rattle.fisca_symbols.specs.declared.tables.Tables.{Tables}
use Rattle.fisca_writer.specs.Run.{AppendsPart}
use Rattle.fisca_yaml.specs.Node.{Items, no_items, item}
use Rattle.fisca_test_file.proofs.Handed.{none_yet, not_all, part_behind}
use Rattle.fisca_test_file.proofs.Reports.{Told, part_more}
use Rattle.fisca_test_file.specs.Handing.{AppendsSome, AreHanded, IsCut, IsHanded, IsPartOf, IsReport, IsReported, IsStopped}
use Rattle.fisca_test_file.specs.Outcomes.{Fails}
use Rattle.fisca_test_file.specs.Report.{TestContext, counts_text, report_text, test_text, tests_text}
use Rattle.fisca_test_file.specs.Steps.Tests.{test_of, tests_from}
use Rattle.fisca_test_file.specs.Tests.{Test}
use Rattle.fisca_test_file.specs.declared.all.Verdict.{Verdict}
use Rattle.fisca_test_file.specs.declared.fault.TestFault.{TestFault}
use Rattle.fisca_test_file.specs.declared.report_fault.ReportFault.{ReportFault}
use Rattle.fisca_test_file.specs.declared.report_fault.ReportFault.TheVariants.{Tests, Write}

-- the tests of items stand behind those so far
pub from_front : (c : Tables) (ts : List Test) (is : Items) (all : List Test) → tests_from c ts is ≡ Ok all → (us : List Test) × (all ≡ ts ++ us)
from_front c ts no_items all h = let same : ts ≡ all = cc in ([], sym same ∙ sym (append-nil ts))
from_front c ts (item line n is) all h =
    let first = then_ok (test_of c line n) (λ t. tests_from c (ts ++ t ∷ []) is) all h in
    let more = from_front c (ts ++ first.0 ∷ []) is all first.2 in
    (first.0 ∷ more.0, more.1 ∙ append_assoc ts (first.0 ∷ []) more.0)

-- the same behind one test more
pub behind_one : (c : Tables) (told : List Test) (is : Items) (t : Test) (ts : List Test) → tests_from c (told ++ t ∷ []) is ≡ Ok ts → (us : List Test) × (ts ≡ told ++ t ∷ us)
behind_one c told is t ts h =
    let more = from_front c (told ++ t ∷ []) is ts h in
    (more.0, more.1 ∙ append_assoc told (t ∷ []) more.0)

pub only_one : (t : Test) (ts : List Test) → ◌≡◌ {A = Result (List Test) TestFault} (Ok (t ∷ [])) (Ok ts) → (us : List Test) × (ts ≡ [] ++ t ∷ us)
only_one t ts h = let same : t ∷ [] ≡ ts = cc in ([], sym same)

-- what is there of the tests so far, and of one that is broken off
module _ {F : Type 0} (test_context : Test → TestContext F) (told : List Test) (one : Result Test TestFault) (rest : Test → Result (List Test) TestFault) (v : Verdict) (old mid new : Option (List ℕ))
    (behind : (t : Test) (ts : List Test) → rest t ≡ Ok ts → (us : List Test) × (ts ≡ told ++ t ∷ us)) (h : Told test_context told v old mid) where
  there : ((t : Test) → one ≡ Ok t → AppendsSome (test_text test_context ((v.passed + v.failed) + 1) t) mid new)
      → (ts : List Test) → and_then one rest ≡ Ok ts → AppendsSome (tests_text test_context 1 ts) old new
  there part ts is =
      let first = then_ok one rest ts is in
      let more = behind first.0 ts first.2 in
      subst (λ us. AppendsSome (tests_text test_context 1 us) old new) (sym more.1) (part_more test_context told more.0 first.0 v old mid new h (part first.0 first.1))

  pub stopped_more : (e : ReportFault) → IsStopped one (λ t. AppendsSome (test_text test_context ((v.passed + v.failed) + 1) t) mid new) e
      → IsStopped (and_then one rest) (λ ts. AppendsSome (tests_text test_context 1 ts) old new) e
  stopped_more (Tests fault) s = ((λ other. ap (λ r. and_then r rest) (s.0.0 other), s.0.1), there s.1)
  stopped_more Write s = there s

-- The last line

some_counts : (passed failed : ℕ) → 0 < length (counts_text passed failed)
some_counts passed failed =
    let rest = decimal passed ++ (codes ", failed " ++ (decimal failed ++ codes "\n")) in
    let first : length (codes "passed ") ≡ 7 = refl in
    let whole : length (codes "passed " ++ rest) ≡ length (codes "passed ") + length rest = length-append (codes "passed ") rest in
    omega (arith, first, whole)

pub nothing_of_counts : (passed failed : ℕ) (old : Option (List ℕ)) → AppendsPart (counts_text passed failed) old old
nothing_of_counts passed failed old = not_all [] (counts_text passed failed) old old (some_counts passed failed) (none_yet [] old)

module _ {F : Type 0} (test_context : Test → TestContext F) (outcome : Result (List Test) TestFault) (old mid new : Option (List ℕ)) where
  pub all_handed : (v : Verdict) → AreHanded test_context outcome old mid v → Appends mid new (counts_text v.passed v.failed) → IsHanded test_context outcome old new v
  all_handed v h w =
      let line : counts_text v.passed v.failed ≡ counts_text _ _ = ap₂ counts_text h.2 h.3 in
      (h.0, h.1, h.2, h.3, Appends-trans old mid new (tests_text test_context 1 h.0) _ h.4 (subst (Appends mid new) line w))

  broken_off : (ts : List Test) → AppendsSome (tests_text test_context 1 ts) old new → AppendsPart (report_text test_context ts) old new
  broken_off ts part = not_all (tests_text test_context 1 ts) _ old new (some_counts _ _) part

  pub stopped_before : (e : ReportFault) → IsStopped outcome (λ ts. AppendsSome (tests_text test_context 1 ts) old new) e → IsStopped outcome (λ ts. AppendsPart (report_text test_context ts) old new) e
  stopped_before (Tests fault) s = (s.0, λ ts is. broken_off ts (s.1 ts is))
  stopped_before Write s = λ ts is. broken_off ts (s ts is)

  in_counts : (v : Verdict) (h : AreHanded test_context outcome old mid v) → AppendsPart (counts_text v.passed v.failed) mid new
      → (ts : List Test) → outcome ≡ Ok ts → AppendsPart (report_text test_context ts) old new
  in_counts v h part ts is =
      let read : outcome ≡ Ok h.0 = h.1 in
      let same : h.0 ≡ ts = cc in
      let line : counts_text v.passed v.failed ≡ counts_text _ _ = ap₂ counts_text h.2 h.3 in
      subst (λ us. AppendsPart (report_text test_context us) old new) same
      (part_behind (tests_text test_context 1 h.0) _ old mid new h.4 (subst (λ x. AppendsPart x mid new) line part))

  pub stopped_in_counts : (v : Verdict) → AreHanded test_context outcome old mid v → (e : ReportFault) → IsCut e → AppendsPart (counts_text v.passed v.failed) mid new
      → IsStopped outcome (λ ts. AppendsPart (report_text test_context ts) old new) e
  stopped_in_counts v h (Tests fault) cut part = ((λ other. absurd (other cut.0), λ is. cut.1), in_counts v h part)
  stopped_in_counts v h Write cut part = in_counts v h part

-- What is told

module _ {F : Type 0} (test_context : Test → TestContext F) (outcome : Result (List Test) TestFault) (old new : Option (List ℕ)) where
  -- a report that is handed over once it is known which tests there are
  pub long_reported : (ts : List Test) → outcome ≡ Ok ts → (r : Result Verdict ReportFault) → IfOk r (IsHanded test_context outcome old new)
      → IfErr r (IsStopped outcome (λ us. AppendsPart (report_text test_context us) old new)) → IsReported test_context outcome old new r
  long_reported ts is (Ok v) handed stopped = handed
  long_reported ts is (Err (Tests fault)) handed stopped = (stopped.0, inr (ts, is, stopped.1 ts is))
  long_reported ts is (Err Write) handed stopped = (ts, is, stopped ts is)

  -- the whole of it is handed over
  pub draft_reported : (v : Verdict) (text : List ℕ) → IsReport test_context outcome v text → Appends old new text → IsReported test_context outcome old new (Ok v)
  draft_reported v text h w = (h.0, h.1, h.2, h.3, subst (Appends old new) h.4 w)

  pub draft_broken : (v : Verdict) (text : List ℕ) → IsReport test_context outcome v text → AppendsPart text old new → IsReported test_context outcome old new (Err Write)
  draft_broken v text h w = (h.0, h.1, subst (λ x. AppendsPart x old new) h.4 w)
