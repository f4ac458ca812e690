-- The formulas that are followed for a key that has a value are its work.
use Rattle.std.proofs.Common.{◌≡◌, ◌⊎◌, inl, inr, ℕ, zero, suc, Bool, true, false, List, [], ◌∷◌, ◌++◌, Result, Ok, Err, refl, sym, ap, ◌∙◌, subst, if◌then◌else◌, ⊎_elim}
use Rattle.std.specs.Prelude.{◌↔◌}
use Rattle.fisca_model.specs.Values.{Value, Key}
use Rattle.fisca_num.specs.Results.{and_then}
use Rattle.fisca_key_semantics.specs.Answers.{Halt, fault, out, Source, Sources, Oracle, refused, known, formula, answer, at_once, outcome, settled, through, value_within}
use Rattle.fisca_key_semantics.specs.Chains.{IsDefinite, IsPath, asked, on_value}
use Rattle.fisca_key_semantics.specs.Inquiry.{Inquiry, gives, fails, asks}
use Rattle.fisca_key_semantics.specs.Keys.{In, has}
use Rattle.fisca_key_semantics.proofs.Fuel.{at_formula, at_refused, within_zero}
use Rattle.fisca_key_semantics.proofs.Paths.{In-append, In-has, In-left, In-right, on_stack_never}
use Rattle.fisca_memo_theory.specs.Work.{Covered, IsWork}
use Rattle.fisca_memo_theory.proofs.Growing.{value_work}
use Rattle.fisca_memo_theory.proofs.WorkDone.{covered_known, covered_value}
use Rattle.fisca_explanation.specs.Explanations.{Told, alone, above, beyond, explanation_within, in_turn, line_at, over, told_at_once, told_from, worked}
use Rattle.fisca_explanation.specs.Listed.{worked_keys}
use Rattle.fisca_explanation.proofs.Different.{is_followed, worked_append}
use Rattle.fisca_explanation.proofs.Lines as lines

through_ok : (key : Key) (r : Result Value Halt) (v : Value) → through key r ≡ Ok v → r ≡ Ok v
through_ok key (Ok w) v e = e
through_ok key (Err (fault f)) v e = absurd (cc)
through_ok key (Err (out chain)) v e = absurd (cc)

settled_ok : (key : Key) (r : Result Value Halt) (v : Value) → settled key r ≡ Ok v → r ≡ Ok v
settled_ok key (Ok w) v e = let same : w ≡ v = cc in ap Ok same
settled_ok key (Err (fault f)) v e = absurd (cc)
settled_ok key (Err (out chain)) v e = absurd (cc)

-- on the way to a value each key has one
pub asked_ok : (W : Oracle) (d : Inquiry) (v : Value) → outcome W d ≡ Ok v → (k : Key) → In k (asked W d) → (w : Value) × (W k ≡ Ok w)
asked_ok W (gives u) v e k i = absurd i
asked_ok W (fails f) v e k i = absurd i
asked_ok W (asks q go) v e k i = by_answer (λ u. asked_ok W (go u) v) (W q) refl e i
  where
    by_answer : ((u : Value) → outcome W (go u) ≡ Ok v → (k : Key) → In k (asked W (go u)) → (w : Value) × (W k ≡ Ok w))
        → (r : Result Value Halt) → W q ≡ r → and_then r (λ u. outcome W (go u)) ≡ Ok v → (q ≡ k) ⊎ In k (on_value r (λ u. asked W (go u))) → (w : Value) × (W k ≡ Ok w)
    by_answer ih (Ok u) is e' (inl s) = (u, ap W (sym s) ∙ is)
    by_answer ih (Ok u) is e' (inr t) = ih u e' k t
    by_answer ih (Err h) is e' t = absurd (cc)

-- what is followed for keys in turn is followed for one of them
turn_worked : (tell : List Key → Key → Told) (before ks : List Key) (k : Key) → In k (worked_keys (in_turn tell before ks).lines) → (j : Key) × In j ks × ((e : List Key) × In k (worked_keys (tell e j).lines))
turn_worked tell before [] k i = absurd i
turn_worked tell before (j ∷ js) k i =
    let first = tell before j in
    let rest = in_turn tell first.followed js in
    ⊎_elim
    (λ (a : In k (worked_keys first.lines)). (j, inl refl, (before, a)))
    (λ (b : In k (worked_keys rest.lines)).
    let found = turn_worked tell first.followed js k b in
    (found.0, inr found.1, found.2))
    (In-append (worked_keys first.lines) (worked_keys rest.lines) k (subst (In k) (worked_append first.lines rest.lines) i))

module _ (src : Sources) where
  formula_ok : (n : ℕ) (key : Key) (d : Inquiry) (v : Value) → src key ≡ formula d → value_within src (suc n) key ≡ Ok v → outcome (value_within src n) d ≡ Ok v
  formula_ok n key d v e h = through_ok key (outcome (value_within src n) d) v (sym (at_formula src n key d e) ∙ h)

  none_at_once : (path before : List Key) (key : Key) (s : Source) (k : Key) → In k (worked_keys (told_at_once src path before key s).lines) → ⊥
  none_at_once path before key refused k i = i
  none_at_once path before key (known v) k i = i
  none_at_once path before key (formula d) k i = by (has before key) i
    where
      by : (b : Bool) → In k (worked_keys (alone (line_at src path key (if b then above else beyond)) before).lines) → ⊥
      by true i' = i'
      by false i' = i'

  work_below : (n : ℕ) (key j k : Key) (d : Inquiry) → src key ≡ formula d → In j (asked (value_within src n) d) → IsWork src n j k → IsWork src (suc n) key k
  unfolding IsWork
  work_below n key j k d e i w = (d, e, inl (j, i, w))

  -- what is followed is work
  pub is_work : (n : ℕ) (path before : List Key) (key : Key) (v : Value) → value_within src n key ≡ Ok v → (k : Key) → In k (worked_keys (explanation_within src n path before key).lines) → IsWork src n key k
  is_work zero path before key v h k i = absurd (none_at_once path before key (src key) k (subst (λ (t : Told). In k (worked_keys t.lines)) (lines.within_zero src path before key) i))
  is_work (suc n) path before key v h k i =
      by_source (λ b j w. is_work n (path ++ key ∷ []) b j w) (src key) refl (subst (λ (t : Told). In k (worked_keys t.lines)) (lines.within_suc src n path before key) i)
    where
      tell : List Key → Key → Told
      tell = explanation_within src n (path ++ key ∷ [])

      by : ((before : List Key) (j : Key) (w : Value) → value_within src n j ≡ Ok w → (k : Key) → In k (worked_keys (tell before j).lines) → IsWork src n j k) → (d : Inquiry) → src key ≡ formula d → (b : Bool)
          → In k (worked_keys (if b then alone (line_at src path key above) before else over (line_at src path key worked) (in_turn tell (before ++ key ∷ []) (asked (value_within src n) d))).lines) → IsWork src (suc n) key k
      by ih d e true t = absurd t
      by ih d e false (inl same) = subst (IsWork src (suc n) key) same (value_work src n key v d e h)
      by ih d e false (inr t) =
          let found = turn_worked tell (before ++ key ∷ []) (asked (value_within src n) d) k t in
          let there = asked_ok (value_within src n) d v (formula_ok n key d v e h) found.0 found.1 in
          work_below n key found.0 k d e found.1 (ih found.2.0 found.0 there.0 there.1 k found.2.1)

      by_source : ((before : List Key) (j : Key) (w : Value) → value_within src n j ≡ Ok w → (k : Key) → In k (worked_keys (tell before j).lines) → IsWork src n j k)
          → (s : Source) → src key ≡ s → In k (worked_keys (told_from src (value_within src n) tell path before key s).lines) → IsWork src (suc n) key k
      by_source ih refused e i' = absurd i'
      by_source ih (known u) e i' = absurd i'
      by_source ih (formula d) e i' = by ih d e (has before key) i'

  -- each key that was followed stands above, or all of its work was followed
  abbrev pub IsClosed : List Key → List Key → Type 0
  IsClosed path followed = (j : Key) → In j followed → In j path ⊎ Covered src (λ k. In k followed) j

  -- a key below a path is done with
  pub record IsDone (path before : List Key) (key : Key) (after : List Key) : Type 0 where
    pub grows : (k : Key) → In k before → In k after
    pub closed : IsClosed path after
    pub all : Covered src (λ k. In k after) key

  -- so are some keys
  pub record AreDone (path before ks after : List Key) : Type 0 where
    pub grows : (k : Key) → In k before → In k after
    pub closed : IsClosed path after
    pub all : (j : Key) → In j ks → Covered src (λ k. In k after) j

  covered_more : (one more : List Key) (key : Key) → ((k : Key) → In k one → In k more) → Covered src (λ k. In k one) key → Covered src (λ k. In k more) key
  covered_more one more key up c n k w = up k (c n k w)

  turn_done : (tell : List Key → Key → Told) (path : List Key) (ks : List Key)
      → ((j : Key) → In j ks → (e : List Key) → IsClosed path e → IsDone path e j (tell e j).followed)
      → (before : List Key) → IsClosed path before → AreDone path before ks (in_turn tell before ks).followed
  turn_done tell path [] each before closed = record { grows = λ k i. i; closed = closed; all = λ j i. absurd i }
  turn_done tell path (k ∷ ks) each before closed =
      let first = tell before k in
      let after = (in_turn tell first.followed ks).followed in
      let one = each k (inl refl) before closed in
      let rest = turn_done tell path ks (λ j i. each j (inr i)) first.followed one.closed in
      record {
        grows = λ j i. rest.grows j (one.grows j i);
        closed = rest.closed;
        all = λ j i. ⊎_elim
            (λ (s : k ≡ j). subst (Covered src (λ q. In q after)) s (covered_more first.followed after k rest.grows one.all))
            (λ (t : In j ks). rest.all j t)
            i;
      }

  -- a formula that is followed
  formula_done : (n : ℕ) (path before : List Key) (key : Key) (d : Inquiry) (after : List Key) → src key ≡ formula d → IsDefinite (outcome (value_within src n) d)
      → AreDone (path ++ key ∷ []) (before ++ key ∷ []) (asked (value_within src n) d) after → IsDone path before key after
  formula_done n path before key d after e def done =
      let here : In key after = done.grows key (In-right before (key ∷ []) key (inl refl)) in
      let all : Covered src (λ k. In k after) key = covered_value src (λ k. In k after) n key d e def done.all here in
      record {
        grows = λ k i. done.grows k (In-left before (key ∷ []) k i);
        closed = λ j i. ⊎_elim
            (λ (a : In j (path ++ key ∷ [])). ⊎_elim
            (λ (b : In j path). inl b)
            (λ (b : In j (key ∷ [])). ⊎_elim (λ (s : key ≡ j). inr (subst (Covered src (λ k. In k after)) s all)) (λ (z : ⊥). absurd z) b)
            (In-append path (key ∷ []) j a))
            (λ (c : Covered src (λ k. In k after) j). inr c)
            (done.closed j i);
        all = all;
      }

  closed_push : (path before : List Key) (key : Key) → IsClosed path before → IsClosed (path ++ key ∷ []) (before ++ key ∷ [])
  closed_push path before key closed j i = ⊎_elim
      (λ (a : In j before). ⊎_elim
      (λ (b : In j path). inl (In-left path (key ∷ []) j b))
      (λ (c : Covered src (λ k. In k before) j). inr (covered_more before (before ++ key ∷ []) j (λ k t. In-left before (key ∷ []) k t) c))
      (closed j a))
      (λ (b : In j (key ∷ [])). inl (In-right path (key ∷ []) j b))
      (In-append before (key ∷ []) j i)

  never_at_once : (key : Key) (s : Source) (v : Value) → at_once s key ≡ Ok v → ⊥
  never_at_once key refused v e = cc
  never_at_once key (known u) v e = cc
  never_at_once key (formula d) v e = cc

  pub is_done : (n : ℕ) (path before : List Key) (key : Key) (v : Value) → IsPath src (path ++ key ∷ []) → value_within src n key ≡ Ok v → IsClosed path before
      → IsDone path before key (explanation_within src n path before key).followed
  is_done zero path before key v p h closed = absurd (never_at_once key (src key) v (sym (within_zero src key) ∙ h))
  is_done (suc n) path before key v p h closed =
      subst (λ (t : Told). IsDone path before key t.followed) (sym (lines.within_suc src n path before key)) (by_source (λ b j w. is_done n (path ++ key ∷ []) b j w) (src key) refl)
    where
      tell : List Key → Key → Told
      tell = explanation_within src n (path ++ key ∷ [])

      ended : (d : Inquiry) → src key ≡ formula d → outcome (value_within src n) d ≡ Ok v
      ended d e = formula_ok n key d v e h

      by : ((before : List Key) (j : Key) (w : Value) → IsPath src ((path ++ key ∷ []) ++ j ∷ []) → value_within src n j ≡ Ok w → IsClosed (path ++ key ∷ []) before → IsDone (path ++ key ∷ []) before j (tell before j).followed)
          → (d : Inquiry) → src key ≡ formula d → (b : Bool) → has before key ≡ b
          → IsDone path before key (if b then alone (line_at src path key above) before else over (line_at src path key worked) (in_turn tell (before ++ key ∷ []) (asked (value_within src n) d))).followed
      by ih d e true is =
          let there : In key before = In-has before key is in
          record {
            grows = λ k i. i;
            closed = closed;
            all = ⊎_elim
                (λ (a : In key path). absurd (on_stack_never src path key p a (suc n) (rw h tt)))
                (λ (c : Covered src (λ k. In k before) key). c)
                (closed key there);
          }
      by ih d e false is = formula_done n path before key d (in_turn tell (before ++ key ∷ []) (asked (value_within src n) d)).followed e (rw (ended d e) tt)
          (turn_done tell (path ++ key ∷ []) (asked (value_within src n) d)
          (λ j i b c. let there = asked_ok (value_within src n) d v (ended d e) j i in ih b j there.0 (lines.path_push src n path key j d e i p) there.1 c)
          (before ++ key ∷ []) (closed_push path before key closed))

      by_source : ((before : List Key) (j : Key) (w : Value) → IsPath src ((path ++ key ∷ []) ++ j ∷ []) → value_within src n j ≡ Ok w → IsClosed (path ++ key ∷ []) before → IsDone (path ++ key ∷ []) before j (tell before j).followed)
          → (s : Source) → src key ≡ s → IsDone path before key (told_from src (value_within src n) tell path before key s).followed
      by_source ih refused e = let none = sym (at_refused src (suc n) key e) ∙ h in absurd (cc)
      by_source ih (known u) e = record { grows = λ k i. i; closed = closed; all = covered_known src (λ k. In k before) key u e }
      by_source ih (formula d) e = by ih d e (has before key) refl

  pub followed_is_work : (key k : Key) (v : Value) → answer src key ≡ Ok v → In k (worked_keys (explanation_within src 100 [] [] key).lines) ↔ IsWork src 100 key k
  unfolding answer
  followed_is_work key k v e =
      let there : value_within src 100 key ≡ Ok v = settled_ok key (value_within src 100 key) v e in
      let done = is_done 100 [] [] key v tt there (λ j i. absurd i) in
      (λ i. is_work 100 [] [] key v there k i, λ w. subst (In k) (is_followed src 100 [] [] key) (done.all 100 k w))
