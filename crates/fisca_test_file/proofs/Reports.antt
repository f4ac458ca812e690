-- The report on all tests, as far as it has come.
use Rattle.std.proofs.Common.{◌≡◌, ◌∙◌, ℕ, ◌+◌, ap, refl, subst, sym, arith, Bool, true, false, not, cond, List, [], ◌∷◌, ◌++◌, length, append_assoc, append-nil, count_by, add-zero}
use Rattle.std.specs.Prelude.{Option, Result, Ok}
use Rattle.std.specs.Io.KnownBytes.{Appends}
use Rattle.std.proofs.KnownBytes.{Appends-nil, Appends-trans}
use Rattle.std.proofs.lemmas.List.{length-append}
use Rattle.std.proofs.lemmas.List.Sums.{sum_by-append}
use Rattle.fisca_test_file.specs.Handing.{AppendsSome, AreHanded}
use Rattle.fisca_test_file.specs.Report.{TestContext, counted, failed_of, passed_of, test_passes, test_text, tests_text}
use Rattle.fisca_test_file.specs.Tests.{Test}
use Rattle.fisca_test_file.proofs.Handed.{behind, in_front}
use Rattle.fisca_test_file.specs.declared.all.Verdict.{Verdict}
use Rattle.fisca_test_file.specs.declared.fault.TestFault.{TestFault}

-- these tests are told
pub record Told {F : Type 0} (test_context : Test → TestContext F) (told : List Test) (v : Verdict) (old new : Option (List ℕ)) : Type 0 where
  pub number : length told ≡ v.passed + v.failed
  pub passed : v.passed ≡ passed_of test_context told
  pub failed : v.failed ≡ failed_of test_context told
  pub written : Appends old new (tests_text test_context 1 told)

-- texts and counts of tests in a row

text_of_both : {F : Type 0} (test_context : Test → TestContext F) (number : ℕ) (ts us : List Test) → tests_text test_context number (ts ++ us) ≡ tests_text test_context number ts ++ tests_text test_context (number + length ts) us
text_of_both test_context number [] us = ap (λ n. tests_text test_context n us) (sym (add-zero number))
text_of_both test_context number (t ∷ ts) us =
    let e : (number + 1) + length ts ≡ number + length (t ∷ ts) = omega arith in
    ap (λ x. test_text test_context number t ++ x) (text_of_both test_context (number + 1) ts us ∙ ap (λ n. tests_text test_context (number + 1) ts ++ tests_text test_context n us) e)
    ∙ sym (append_assoc (test_text test_context number t) (tests_text test_context (number + 1) ts) (tests_text test_context (number + length (t ∷ ts)) us))

count_more : (p : Test → Bool) (ts : List Test) (t : Test) (count : ℕ) → count ≡ count_by p ts → count + cond (p t) 1 0 ≡ count_by p (ts ++ t ∷ [])
count_more p ts t count h =
    let more : count_by p (ts ++ t ∷ []) ≡ count_by p ts + count_by p (t ∷ []) = sum_by-append (λ x. cond (p x) 1 0) ts (t ∷ []) in
    omega (arith, h, more)

text_more : {F : Type 0} (test_context : Test → TestContext F) (ts : List Test) (t : Test) (count : ℕ) → length ts ≡ count
    → tests_text test_context 1 ts ++ test_text test_context (count + 1) t ≡ tests_text test_context 1 (ts ++ t ∷ [])
text_more test_context ts t count h =
    let e : count + 1 ≡ 1 + length ts = omega (arith, h) in
    ap (λ n. tests_text test_context 1 ts ++ test_text test_context n t) e ∙ ap (λ x. tests_text test_context 1 ts ++ x) (sym (append-nil (test_text test_context (1 + length ts) t)))
    ∙ sym (text_of_both test_context 1 ts (t ∷ []))

-- None so far

pub begun : {F : Type 0} (test_context : Test → TestContext F) (old : Option (List ℕ)) → Told test_context [] (record { passed = 0; failed = 0 }) old old
begun test_context old = record { number = refl; passed = refl; failed = refl; written = Appends-nil old }

-- One test more

counted_passed : (b : Bool) (v : Verdict) → (counted b v).passed ≡ v.passed + cond b 1 0
counted_passed true v = refl
counted_passed false v = sym (add-zero v.passed)

counted_failed : (b : Bool) (v : Verdict) → (counted b v).failed ≡ v.failed + cond (not b) 1 0
counted_failed true v = sym (add-zero v.failed)
counted_failed false v = refl

counted_one : (b : Bool) (v : Verdict) → (v.passed + v.failed) + 1 ≡ (counted b v).passed + (counted b v).failed
counted_one true v = omega arith
counted_one false v = omega arith

pub step : {F : Type 0} (test_context : Test → TestContext F) (told : List Test) (t : Test) (v : Verdict) (old mid new : Option (List ℕ)) (b : Bool)
    → Told test_context told v old mid → b ≡ test_passes test_context t → Appends mid new (test_text test_context ((v.passed + v.failed) + 1) t)
    → Told test_context (told ++ t ∷ []) (counted b v) old new
step test_context told t v old mid new b h is w =
    let longer : length (told ++ t ∷ []) ≡ length told + 1 = length-append told (t ∷ []) in
    let number : length (told ++ t ∷ []) ≡ (v.passed + v.failed) + 1 = omega (arith, longer, h.number) in
    record {
      number = number ∙ counted_one b v;
      passed = counted_passed b v ∙ ap (λ c. v.passed + cond c 1 0) is ∙ count_more (test_passes test_context) told t v.passed h.passed;
      failed = counted_failed b v ∙ ap (λ c. v.failed + cond (not c) 1 0) is ∙ count_more (λ x. not (test_passes test_context x)) told t v.failed h.failed;
      written = subst (Appends old new) (text_more test_context told t (v.passed + v.failed) h.number) (Appends-trans old mid new _ _ h.written w);
    }

-- All of them

pub all_told : {F : Type 0} (test_context : Test → TestContext F) (outcome : Result (List Test) TestFault) (ts : List Test) (v : Verdict) (old new : Option (List ℕ))
    → outcome ≡ Ok ts → Told test_context ts v old new → AreHanded test_context outcome old new v
all_told test_context outcome ts v old new is h = (ts, is, h.passed, h.failed, h.written)

-- A test more is told in part

-- the text of more tests begins with that of the first of them
pub part_more : {F : Type 0} (test_context : Test → TestContext F) (told us : List Test) (t : Test) (v : Verdict) (old mid new : Option (List ℕ))
    → Told test_context told v old mid → AppendsSome (test_text test_context ((v.passed + v.failed) + 1) t) mid new → AppendsSome (tests_text test_context 1 (told ++ t ∷ us)) old new
part_more test_context told us t v old mid new h part =
    let one = test_text test_context ((v.passed + v.failed) + 1) t in
    let rest = tests_text test_context ((1 + length told) + 1) us in
    let e : (v.passed + v.failed) + 1 ≡ 1 + length told = omega (arith, h.number) in
    let whole : tests_text test_context 1 (told ++ t ∷ us) ≡ tests_text test_context 1 told ++ (one ++ rest) =
    text_of_both test_context 1 told (t ∷ us) ∙ ap (λ n. tests_text test_context 1 told ++ (test_text test_context n t ++ rest)) (sym e) in
    subst (λ x. AppendsSome x old new) (sym whole) (behind (tests_text test_context 1 told) (one ++ rest) old mid new h.written (in_front one rest mid new part))
