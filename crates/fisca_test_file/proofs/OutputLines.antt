-- Lines and verdicts of outputs, as far as they have come.
use Rattle.std.proofs.Common.{◌≡◌, ◌∙◌, ℕ, suc, ◌+◌, ◌-◌, ◌<◌, ap, arith, refl, sym, Bool, true, false, List, [], ◌∷◌, ◌++◌, map, length, get_or, drop, drop-cons, add-one, append-nil, zero-add}
use Rattle.std.specs.Prelude.{◌&&◌, Option}
use Rattle.std.specs.List.{flat_map, list_all, range_with_len}
use Rattle.std.proofs.lemmas.Grind.{flat_map-append}
use Rattle.std.proofs.lemmas.List.FromFn.{map-range_with_len_more}
use Rattle.std.proofs.lemmas.List.Folds.{list_all-append}
use Rattle.fisca_expected.specs.Outputs.{Output}
use Rattle.fisca_expected.specs.Views.{expected_outputs}
use Rattle.fisca_expected.specs.declared.outputs.ExpectedOutput.{ExpectedOutput}
use Rattle.fisca_groups.specs.declared.entity_members.EntityMembers.{EntityMembers}
use Rattle.fisca_model.specs.Tables.{Tables}
use Rattle.fisca_model.specs.declared.key.Key.{Key}
use Rattle.fisca_test_file.specs.Report.{TestContext, outcome_in, outcome_line, output_line, output_lines, output_passes, passes}
use Rattle.fisca_test_file.specs.Steps.Verdicts.{is_passed}
use Rattle.fisca_test_file.specs.declared.margins.Margins.{Margins}
use Rattle.fisca_test_file.specs.declared.outcome.Outcome.{Outcome}
use Rattle.fisca_test_file.specs.declared.outcome.Outcome.TheVariants.{Passed, Missed, TooWide, Faulted}

and_true : (b : Bool) → (b && true) ≡ b
and_true true = refl
and_true false = refl

both_true : (a b : Bool) → (a && b) ≡ true → (a ≡ true) × (b ≡ true)
both_true true b h = (refl, h)
both_true false b h = cc

passed_line : {F : Type 0} (c : Tables) (ms : List EntityMembers) (name : F → List ℕ) (key : F → Option Key) (o : Output) (x : Outcome F) → is_passed x ≡ true → outcome_line c ms name key o x ≡ []
passed_line c ms name key o Passed h = refl
passed_line c ms name key o (Missed got) h = cc
passed_line c ms name key o TooWide h = cc
passed_line c ms name key o (Faulted f) h = cc

-- what stands at a place of a list, and behind it
first_of : {X : Type 0} (xs : List X) (i : ℕ) (x : X) → i < length xs → x ≡ get_or xs i x → drop i xs ≡ x ∷ drop (i + 1) xs
first_of xs i x inside is = drop-cons xs i x inside ∙ ap (λ y. y ∷ drop (suc i) xs) (sym is) ∙ ap (λ k. x ∷ drop k xs) (sym (add-one i))

pub all_left : (n : ℕ) → n ≡ n - 0
all_left n = omega (arith)

one_more : (a n : ℕ) → a < n → n - a ≡ suc (n - (a + 1))
one_more a n h = omega (arith, h)

module _ {F : Type 0} (s : TestContext F) (m : Margins) where
  pub lines_of_both : (os ps : List Output) → output_lines s m (os ++ ps) ≡ output_lines s m os ++ output_lines s m ps
  lines_of_both os ps = flat_map-append (output_line s m) os ps

  pub pass_both : (os ps : List Output) → passes s m (os ++ ps) ≡ (passes s m os && passes s m ps)
  pass_both os ps = list_all-append (output_passes s m) os ps

  -- of one output alone
  pub line_alone : (o : Output) → output_lines s m (o ∷ []) ≡ output_line s m o
  line_alone o = append-nil (output_line s m o)

  pub pass_alone : (o : Output) → passes s m (o ∷ []) ≡ output_passes s m o
  pass_alone o = and_true (output_passes s m o)

  -- what is told of members from a place on begins with what is told of the one that stands there
  pub lines_from_member : (f : ℕ → Output) (a n : ℕ) → a < n
      → output_lines s m (map f (range_with_len a (n - a))) ≡ output_line s m (f a) ++ output_lines s m (map f (range_with_len (a + 1) (n - (a + 1))))
  lines_from_member f a n h = ap (λ k. output_lines s m (map f (range_with_len a k))) (one_more a n h)

  pub pass_from_member : (f : ℕ → Output) (a n : ℕ) → a < n
      → passes s m (map f (range_with_len a (n - a))) ≡ (output_passes s m (f a) && passes s m (map f (range_with_len (a + 1) (n - (a + 1)))))
  pass_from_member f a n h = ap (λ k. passes s m (map f (range_with_len a k))) (one_more a n h)

  -- there is no line where all pass
  pub none_failed : (os : List Output) → passes s m os ≡ true → output_lines s m os ≡ []
  none_failed [] h = refl
  none_failed (o ∷ os) h =
      let both = both_true (output_passes s m o) (passes s m os) h in
      ap (λ x. x ++ output_lines s m os) (passed_line s.tables s.members s.fault_name s.fault_key o (outcome_in s m o) both.0) ∙ none_failed os both.1

  -- what is told of what is expected from a place on begins with what is told of what stands there
  pub lines_from : (es : List ExpectedOutput) (i : ℕ) (e : ExpectedOutput) → i < length es → e ≡ get_or es i e
      → output_lines s m (flat_map expected_outputs (drop i es)) ≡ output_lines s m (expected_outputs e) ++ output_lines s m (flat_map expected_outputs (drop (i + 1) es))
  lines_from es i e inside is =
      ap (λ xs. output_lines s m (flat_map expected_outputs xs)) (first_of es i e inside is) ∙ lines_of_both (expected_outputs e) (flat_map expected_outputs (drop (i + 1) es))

  pub pass_from : (es : List ExpectedOutput) (i : ℕ) (e : ExpectedOutput) → i < length es → e ≡ get_or es i e
      → passes s m (flat_map expected_outputs (drop i es)) ≡ (passes s m (expected_outputs e) && passes s m (flat_map expected_outputs (drop (i + 1) es)))
  pass_from es i e inside is =
      ap (λ xs. passes s m (flat_map expected_outputs xs)) (first_of es i e inside is) ∙ pass_both (expected_outputs e) (flat_map expected_outputs (drop (i + 1) es))
