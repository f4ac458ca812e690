-- What is remembered holds the work of each of its keys, and the work under a cycle was done at its first turn.
use Rattle.std.proofs.Common.{◌≡◌, ◌⊎◌, inl, inr, ℕ, zero, suc, ◌+◌, ◌<◌, ◌≤◌, List, [], ◌∷◌, ◌++◌, Result, Ok, Err, refl, sym, ap, subst, ◌∙◌, arith, ⊎_elim}
use Rattle.std.proofs.lemmas.Bool.{cases_lt}
use Rattle.fisca_model.specs.Values.{Value, Key}
use Rattle.fisca_key_semantics.specs.Answers.{Halt, Sources, refused, known, formula, outcome, value_within}
use Rattle.fisca_key_semantics.specs.Chains.{IsDefinite, on_value, asked, PathFrom, IsPath}
use Rattle.fisca_key_semantics.specs.Inquiry.{Inquiry, asks}
use Rattle.fisca_key_semantics.specs.Keys.{In}
use Rattle.fisca_key_semantics.proofs.Runs.{ends_stays, asked_stays}
use Rattle.fisca_key_semantics.proofs.Fuel.{stays}
use Rattle.fisca_key_semantics.proofs.Paths.{Never, never_on, key_never, path_tail, In-append}
use Rattle.fisca_memo_theory.specs.Gathered.{IsGathered, AreRight, keys_of}
use Rattle.fisca_memo_theory.specs.Work.{IsWork, Covered, Passed, PassedFrom, PassedPath}
use Rattle.fisca_memo_theory.proofs.Gathering.{leads_asked, right_wider}

module _ (src : Sources) (M : Key → Type 0) where
  formula_same : (d e : Inquiry) → formula d ≡ formula e → d ≡ e
  formula_same d e h = cc

  -- a key without a formula has no work
  pub covered_known : (j : Key) (v : Value) → src j ≡ known v → Covered src M j
  unfolding IsWork
  covered_known j v e zero k w = absurd w
  covered_known j v e (suc m) k w = let f = w.1 in cc

  -- A finished key.
  pub covered_value : (n : ℕ) (key : Key) (d : Inquiry) → src key ≡ formula d → IsDefinite (outcome (value_within src n) d) → ((j : Key) → In j (asked (value_within src n) d) → Covered src M j) → M key → Covered src M key
  unfolding IsWork
  covered_value n key d e def all here zero k w = absurd w
  covered_value n key d e def all here (suc m) k w =
      let same : w.0 ≡ d = formula_same w.0 d (sym w.1 ∙ e) in
      ⊎_elim
      (λ (a : (j : Key) × In j (asked (value_within src m) w.0) × IsWork src m j k).
      let asks : In a.0 (asked (value_within src m) d) = subst (λ x. In a.0 (asked (value_within src m) x)) same a.1 in
      let early : In a.0 (asked (value_within src n) d) = ⊎_elim
      (λ (lt : m < n). asked_stays (value_within src m) (value_within src n) (stays src m n (omega arith)) d a.0 asks)
      (λ (ge : n ≤ m). subst (In a.0) (ends_stays (value_within src n) (value_within src m) (stays src n m ge) d def).1 asks)
      (cases_lt m n) in
      all a.0 early m k a.2)
      (λ (b : (k ≡ key) × ((v : Value) × (value_within src (suc m) key ≡ Ok v))). subst M (sym b.0) here)
      w.2

  -- A key whose formula gave no value with this fuel: nothing but the work of what it asks for.
  pub work_stopped : (n : ℕ) (key : Key) (d : Inquiry) → src key ≡ formula d → ((v : Value) → value_within src (suc n) key ≡ Ok v → ⊥) → ((j : Key) → In j (asked (value_within src n) d) → (k : Key) → IsWork src n j k → M k) → (k : Key) → IsWork src (suc n) key k → M k
  unfolding IsWork
  work_stopped n key d e lacks all k w =
      let same : w.0 ≡ d = formula_same w.0 d (sym w.1 ∙ e) in
      ⊎_elim
      (λ (a : (j : Key) × In j (asked (value_within src n) w.0) × IsWork src n j k). all a.0 (subst (λ x. In a.0 (asked (value_within src n) x)) same a.1) k a.2)
      (λ (b : (k ≡ key) × ((v : Value) × (value_within src (suc n) key ≡ Ok v))). absurd (lacks b.1.0 b.1.1))
      w.2

  -- The next key is needed: all others so far are covered.
  pub passed_by : (n : ℕ) (key j : Key) (d now : Inquiry) (tallest : ℕ) (go : Value → Inquiry) → src key ≡ formula d → IsGathered src n d now tallest (Covered src M) → now ≡ asks j go → Passed src M key j
  passed_by n key j d now tallest go e g is never d' e' m k i =
      let same : d' ≡ d = formula_same d' d (sym e' ∙ e) in
      let i' : In k (asked (value_within src m) d) = subst (λ x. In k (asked (value_within src m) x)) same i in
      let up : In k (asked (value_within src (m + n)) d) = asked_stays (value_within src m) (value_within src (m + n)) (stays src m (m + n) (omega arith)) d k i' in
      let right : AreRight (value_within src (m + n)) g.done = right_wider (value_within src n) (value_within src (m + n)) g.done (λ q v a. stays src n (m + n) (omega arith) q (rw a tt) ∙ a) g.right in
      let list : asked (value_within src (m + n)) d ≡ keys_of g.done ++ j ∷ [] = leads_asked (value_within src (m + n)) g.done d now g.leads right ∙ ap (λ x. keys_of g.done ++ asked (value_within src (m + n)) x) is ∙ ap (λ x. keys_of g.done ++ j ∷ x) (open_end (value_within src (m + n) j) (never (m + n))) in
      ⊎_elim
      (λ (a : In k (keys_of g.done)). inr (g.all k a))
      (λ (b : In k (j ∷ [])). ⊎_elim (λ (s : j ≡ k). inl s) (λ (z : ⊥). absurd z) b)
      (In-append (keys_of g.done) (j ∷ []) k (subst (In k) list up))
    where
      open_end : (r : Result Value Halt) → (IsDefinite r → ⊥) → on_value r (λ v. asked (value_within src (m + n)) (go v)) ≡ []
      open_end (Ok v) h = absurd (h tt)
      open_end (Err x) h = refl

  -- each key of a path was passed on to the next
  pub passed_next : (k : Key) (ks : List Key) (end : Key) → PathFrom src k (ks ++ end ∷ []) → PassedFrom src M k (ks ++ end ∷ []) → (j : Key) → In j (k ∷ ks) → (y : Key) × Passed src M j y × (In y ks ⊎ (end ≡ y))
  passed_next k [] end p q j (inl s) = (end, subst (λ z. Passed src M z end) s q.0, inr refl)
  passed_next k [] end p q j (inr t) = absurd t
  passed_next k (x ∷ ks) end p q j (inl s) = (x, subst (λ z. Passed src M z x) s q.0, inl (inl refl))
  passed_next k (x ∷ ks) end p q j (inr t) =
      let found = passed_next x ks end p.1 q.1 j t in
      (found.0, found.1, ⊎_elim (λ (a : In found.0 ks). inl (inr a)) (λ (b : end ≡ found.0). inr b) found.2)

  -- The work under a key of a cycle is remembered when the key is found on the stack.
  module _ (key : Key) (ks : List Key) (loop : PathFrom src key (ks ++ key ∷ [])) (passed : PassedFrom src M key (ks ++ key ∷ [])) where
    pub cycle_work : (n : ℕ) (x : Key) → In x (key ∷ ks) → (k : Key) → IsWork src n x k → M k
    unfolding IsWork
    cycle_work zero x i k w = absurd w
    cycle_work (suc n) x i k w =
        let next = passed_next key ks key loop passed x i in
        let member : In next.0 (key ∷ ks) = ⊎_elim (λ (b : In next.0 ks). inr b) (λ (b : key ≡ next.0). inl b) next.2 in
        let never : Never src next.0 = never_on src key ks key loop (key_never src key ks loop) next.0 member in
        ⊎_elim
        (λ (a : (j : Key) × In j (asked (value_within src n) w.0) × IsWork src n j k). ⊎_elim
        (λ (s : next.0 ≡ a.0). cycle_work n a.0 (subst (λ z. In z (key ∷ ks)) s member) k a.2)
        (λ (c : Covered src M a.0). c n k a.2)
        (next.1 never w.0 w.1 n a.0 a.1))
        (λ (b : (k ≡ x) × ((v : Value) × (value_within src (suc n) x ≡ Ok v))). absurd (never_on src key ks key loop (key_never src key ks loop) x i (suc n) (rw b.1.1 tt)))
        w.2

  passed_tail : (k : Key) (ks : List Key) → PassedFrom src M k ks → PassedPath src M ks
  passed_tail k [] p = tt
  passed_tail k (j ∷ js) p = p.1

  cycle_passed : (stack : List Key) (key : Key) → IsPath src (stack ++ key ∷ []) → PassedPath src M (stack ++ key ∷ []) → In key stack → (ks : List Key) × PathFrom src key (ks ++ key ∷ []) × PassedFrom src M key (ks ++ key ∷ [])
  cycle_passed [] key p q i = absurd i
  cycle_passed (x ∷ stack) key p q (inl s) = (stack, subst (λ y. PathFrom src y (stack ++ key ∷ [])) s p, subst (λ y. PassedFrom src M y (stack ++ key ∷ [])) s q)
  cycle_passed (x ∷ stack) key p q (inr t) = cycle_passed stack key (path_tail src x (stack ++ key ∷ []) p) (passed_tail x (stack ++ key ∷ []) q) t

  pub stack_work : (stack : List Key) (n : ℕ) (key : Key) → IsPath src (stack ++ key ∷ []) → PassedPath src M (stack ++ key ∷ []) → In key stack → (k : Key) → IsWork src n key k → M k
  stack_work stack n key p q i =
      let c = cycle_passed stack key p q i in
      cycle_work key c.0 c.1 c.2 n key (inl refl)

  -- one more key on the path
  pub passed_push : (k : Key) (ks : List Key) (j i : Key) → PassedFrom src M k (ks ++ j ∷ []) → Passed src M j i → PassedFrom src M k (ks ++ j ∷ i ∷ [])
  passed_push k [] j i p q = (p.0, (q, tt))
  passed_push k (x ∷ ks) j i p q = (p.0, passed_push x ks j i p.1 q)

  pub passed_append : (ks : List Key) (j i : Key) → PassedPath src M (ks ++ j ∷ []) → Passed src M j i → PassedPath src M (ks ++ j ∷ i ∷ [])
  passed_append [] j i p q = (q, tt)
  passed_append (k ∷ ks) j i p q = passed_push k ks j i p q

  pub work_none : (key k : Key) (n : ℕ) → n ≡ 0 → IsWork src n key k → ⊥
  unfolding IsWork
  work_none key k n z w = subst (λ m. IsWork src m key k) z w

  pub work_refused : (key : Key) → src key ≡ refused → (n : ℕ) (k : Key) → IsWork src n key k → ⊥
  unfolding IsWork
  work_refused key e zero k w = w
  work_refused key e (suc n) k w = let x = w.1 in cc

-- more is remembered
pub passed_more : (src : Sources) (M M' : Key → Type 0) → ((k : Key) → M k → M' k) → (k : Key) (ks : List Key) → PassedFrom src M k ks → PassedFrom src M' k ks
passed_more src M M' up k [] p = tt
passed_more src M M' up k (j ∷ js) p =
    (λ never d e m i a. ⊎_elim (λ (s : j ≡ i). inl s) (λ (c : Covered src M i). inr (λ n q w. up q (c n q w))) (p.0 never d e m i a), passed_more src M M' up j js p.1)

pub passed_path_more : (src : Sources) (M M' : Key → Type 0) → ((k : Key) → M k → M' k) → (ks : List Key) → PassedPath src M ks → PassedPath src M' ks
passed_path_more src M M' up [] p = tt
passed_path_more src M M' up (k ∷ ks) p = passed_more src M M' up k ks p
