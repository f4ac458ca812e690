-- The keys whose formulas are followed are those of the lines, and differ.
use Rattle.std.proofs.Common.{◌≡◌, inl, inr, ℕ, zero, suc, Bool, true, false, List, [], ◌∷◌, ◌++◌, refl, sym, ap, ◌∙◌, subst, if◌then◌else◌, append_assoc, append-nil, ⊎_elim}
use Rattle.std.proofs.lemmas.Bool.{true≢false}
use Rattle.fisca_model.specs.Values.{Key}
use Rattle.fisca_key_semantics.specs.Answers.{Source, Sources, refused, known, formula, value_within}
use Rattle.fisca_key_semantics.specs.Chains.{asked}
use Rattle.fisca_key_semantics.specs.Keys.{In, has}
use Rattle.fisca_key_semantics.proofs.Paths.{In-append, has-In}
use Rattle.fisca_memo_theory.specs.Added.{AreDifferent}
use Rattle.fisca_explanation.specs.Explanations.{Line, Reason, Told, alone, above, at_hand, beyond, explanation_within, in_turn, line_at, over, told_at_once, told_from, unfit, worked}
use Rattle.fisca_explanation.specs.Listed.{with_key, worked_keys}
use Rattle.fisca_explanation.proofs.Lines.{within_suc, within_zero}

with_more : (reason : Reason) (key : Key) (xs ys : List Key) → with_key reason key (xs ++ ys) ≡ with_key reason key xs ++ ys
with_more worked key xs ys = refl
with_more unfit key xs ys = refl
with_more at_hand key xs ys = refl
with_more beyond key xs ys = refl
with_more above key xs ys = refl

pub worked_append : (xs ys : List Line) → worked_keys (xs ++ ys) ≡ worked_keys xs ++ worked_keys ys
worked_append [] ys = refl
worked_append (x ∷ xs) ys = ap (with_key x.reason x.key) (worked_append xs ys) ∙ with_more x.reason x.key (worked_keys xs) (worked_keys ys)

-- what was followed is what was followed before, and the lines' own
abbrev pub IsFollowed : List Key → Told → Type 0
IsFollowed before t = t.followed ≡ before ++ worked_keys t.lines

pub different_push : (xs : List Key) (key : Key) → AreDifferent xs → (In key xs → ⊥) → AreDifferent (xs ++ key ∷ [])
different_push [] key d n = (λ i. i, tt)
different_push (x ∷ xs) key d n = (
  λ i. ⊎_elim (λ (a : In x xs). d.0 a) (λ (b : In x (key ∷ [])). ⊎_elim (λ (s : key ≡ x). n (inl (sym s))) (λ (z : ⊥). z) b) (In-append xs (key ∷ []) x i),
  different_push xs key d.1 (λ i. n (inr i)),
)

module _ (tell : List Key → Key → Told) where
  pub turn_followed : ((e : List Key) (k : Key) → IsFollowed e (tell e k)) → (before ks : List Key) → IsFollowed before (in_turn tell before ks)
  turn_followed each before [] = sym (append-nil before)
  turn_followed each before (k ∷ ks) =
      let first = tell before k in
      let rest = in_turn tell first.followed ks in
      turn_followed each first.followed ks
      ∙ (ap (λ l. l ++ worked_keys rest.lines) (each before k)
      ∙ (append_assoc before (worked_keys first.lines) (worked_keys rest.lines) ∙ ap (λ l. before ++ l) (sym (worked_append first.lines rest.lines))))

  pub turn_different : ((e : List Key) (k : Key) → AreDifferent e → AreDifferent (tell e k).followed) → (before ks : List Key) → AreDifferent before → AreDifferent (in_turn tell before ks).followed
  turn_different each before [] d = d
  turn_different each before (k ∷ ks) d = turn_different each (tell before k).followed ks (each before k d)

module _ (src : Sources) where
  -- of lines without a formula of their own
  once_followed : (path before : List Key) (key : Key) (s : Source) → IsFollowed before (told_at_once src path before key s)
  once_followed path before key refused = sym (append-nil before)
  once_followed path before key (known v) = sym (append-nil before)
  once_followed path before key (formula d) = by (has before key)
    where
      by : (b : Bool) → before ≡ before ++ with_key (if b then above else beyond) key []
      by true = sym (append-nil before)
      by false = sym (append-nil before)

  once_same : (path before : List Key) (key : Key) (s : Source) → (told_at_once src path before key s).followed ≡ before
  once_same path before key refused = refl
  once_same path before key (known v) = refl
  once_same path before key (formula d) = refl

  from_followed : (n : ℕ) (path before : List Key) (key : Key) (s : Source) → ((e : List Key) (k : Key) → IsFollowed e (explanation_within src n (path ++ key ∷ []) e k))
      → IsFollowed before (told_from src (value_within src n) (explanation_within src n (path ++ key ∷ [])) path before key s)
  from_followed n path before key refused each = sym (append-nil before)
  from_followed n path before key (known v) each = sym (append-nil before)
  from_followed n path before key (formula d) each = by (has before key)
    where
      tell : List Key → Key → Told
      tell = explanation_within src n (path ++ key ∷ [])

      below : Told
      below = in_turn tell (before ++ key ∷ []) (asked (value_within src n) d)

      by : (b : Bool) → IsFollowed before (if b then alone (line_at src path key above) before else over (line_at src path key worked) below)
      by true = sym (append-nil before)
      by false = turn_followed tell each (before ++ key ∷ []) (asked (value_within src n) d) ∙ append_assoc before (key ∷ []) (worked_keys below.lines)

  pub is_followed : (n : ℕ) (path before : List Key) (key : Key) → IsFollowed before (explanation_within src n path before key)
  is_followed zero path before key = subst (IsFollowed before) (sym (within_zero src path before key)) (once_followed path before key (src key))
  is_followed (suc n) path before key =
      subst (IsFollowed before) (sym (within_suc src n path before key)) (from_followed n path before key (src key) (λ e k. is_followed n (path ++ key ∷ []) e k))

  from_different : (n : ℕ) (path before : List Key) (key : Key) (s : Source) → ((e : List Key) (k : Key) → AreDifferent e → AreDifferent (explanation_within src n (path ++ key ∷ []) e k).followed)
      → AreDifferent before → AreDifferent (told_from src (value_within src n) (explanation_within src n (path ++ key ∷ [])) path before key s).followed
  from_different n path before key refused each d = d
  from_different n path before key (known v) each d = d
  from_different n path before key (formula q) each d = by (has before key) refl
    where
      tell : List Key → Key → Told
      tell = explanation_within src n (path ++ key ∷ [])

      by : (b : Bool) → has before key ≡ b
          → AreDifferent (if b then alone (line_at src path key above) before else over (line_at src path key worked) (in_turn tell (before ++ key ∷ []) (asked (value_within src n) q))).followed
      by true is = d
      by false is = turn_different tell each (before ++ key ∷ []) (asked (value_within src n) q) (different_push before key d (λ i. true≢false (sym (has-In before key i) ∙ is)))

  pub stay_different : (n : ℕ) (path before : List Key) (key : Key) → AreDifferent before → AreDifferent (explanation_within src n path before key).followed
  stay_different zero path before key d = subst AreDifferent (sym (ap (λ (t : Told). t.followed) (within_zero src path before key) ∙ once_same path before key (src key))) d
  stay_different (suc n) path before key d =
      subst (λ (t : Told). AreDifferent t.followed) (sym (within_suc src n path before key)) (from_different n path before key (src key) (λ e k. stay_different n (path ++ key ∷ []) e k) d)

  pub all_different : (n : ℕ) (key : Key) → AreDifferent (worked_keys (explanation_within src n [] [] key).lines)
  all_different n key = subst AreDifferent (is_followed n [] [] key) (stay_different n [] [] key tt)
