-- Chains of keys: where the fuel runs out, which key stands twice, and that definite keys are on no cycle.
use Rattle.std.proofs.Common.{◌≡◌, ◌⊎◌, inl, inr, ℕ, zero, suc, ◌<◌, ◌≤◌, List, [], ◌∷◌, ◌++◌, Result, Ok, Err, Some, None, Bool, true, false, cond, ◌||◌, refl, sym, ap, subst, ◌∙◌, arith, ⊎_elim}
use Rattle.std.proofs.lemmas.Bool.{cases_lt, cases_Bool, or_cases, false≢true}
use Rattle.fisca_model.specs.Values.{Value, Key}
use Rattle.fisca_key_semantics.specs.Answers.{Halt, fault, out, Source, Sources, refused, known, formula, outcome, through, at_once, value_within, first_again}
use Rattle.fisca_key_semantics.specs.Chains.{asked, IsDefinite, AsksFor, PathFrom, IsPath}
use Rattle.fisca_key_semantics.specs.Inquiry.{Inquiry}
use Rattle.fisca_key_semantics.specs.Keys.{In, has, same_key}
use Rattle.fisca_key_semantics.proofs.Fuel.{within_zero, at_formula, at_refused, at_known, stays, falls}
use Rattle.fisca_key_semantics.proofs.KeyFacts.{equal_key, key_same, other_key, cases_key}
use Rattle.fisca_key_semantics.proofs.Runs.{one_open, out_at}

-- `has` decides `In`
pub In-has : (xs : List Key) (k : Key) → has xs k ≡ true → In k xs
In-has [] k h = absurd (false≢true h)
In-has (x ∷ xs) k h = ⊎_elim (λ (e : same_key x k ≡ true). inl (equal_key x k e)) (λ (t : has xs k ≡ true). inr (In-has xs k t)) (or_cases (same_key x k) (has xs k) h)

pub has-In : (xs : List Key) (k : Key) → In k xs → has xs k ≡ true
has-In [] k i = absurd i
has-In (x ∷ xs) k (inl e) = rw (key_same x k e) refl
has-In (x ∷ xs) k (inr t) = rw (has-In xs k t) (or_true (same_key x k))
  where
    or_true : (b : Bool) → (b || true) ≡ true
    or_true true = refl
    or_true false = refl

pub has-none : (xs : List Key) (k : Key) → (In k xs → ⊥) → has xs k ≡ false
has-none xs k n = ⊎_elim (λ (e : has xs k ≡ true). absurd (n (In-has xs k e))) (λ (e : has xs k ≡ false). e) (cases_Bool (has xs k))

pub In-append : (xs ys : List Key) (k : Key) → In k (xs ++ ys) → In k xs ⊎ In k ys
In-append [] ys k i = inr i
In-append (x ∷ xs) ys k (inl e) = inl (inl e)
In-append (x ∷ xs) ys k (inr t) = ⊎_elim (λ (a : In k xs). inl (inr a)) (λ (b : In k ys). inr b) (In-append xs ys k t)

pub In-left : (xs ys : List Key) (k : Key) → In k xs → In k (xs ++ ys)
In-left [] ys k i = absurd i
In-left (x ∷ xs) ys k (inl e) = inl e
In-left (x ∷ xs) ys k (inr t) = inr (In-left xs ys k t)

pub In-right : (xs ys : List Key) (k : Key) → In k ys → In k (xs ++ ys)
In-right [] ys k i = i
In-right (x ∷ xs) ys k i = inr (In-right xs ys k i)

-- the list goes on distinct
pub again-cons : (x : Key) (xs : List Key) → (In x xs → ⊥) → first_again (x ∷ xs) ≡ first_again xs
again-cons x xs n = rw (has-none xs x n) refl

pub again-here : (x : Key) (xs : List Key) → In x xs → first_again (x ∷ xs) ≡ Some x
again-here x xs i = rw (has-In xs x i) refl

-- no key of a list without repeats stands again, and its tail has none either
pub distinct-head : (x : Key) (xs : List Key) → first_again (x ∷ xs) ≡ None → In x xs → ⊥
distinct-head x xs e i = let f : Some x ≡ None = sym (again-here x xs i) ∙ e in cc

pub distinct-tail : (x : Key) (xs : List Key) → first_again (x ∷ xs) ≡ None → first_again xs ≡ None
distinct-tail x xs e = sym (again-cons x xs (distinct-head x xs e)) ∙ e

-- what one more key at the end does
pub again-push : (xs : List Key) (key : Key) → first_again xs ≡ None → first_again (xs ++ key ∷ []) ≡ cond (has xs key) (Some key) None
again-push [] key e = refl
again-push (x ∷ xs) key e = ⊎_elim
    (λ (s : x ≡ key).
    let here : In x (xs ++ key ∷ []) = In-right xs (key ∷ []) x (inl (sym s)) in
    let t : has (x ∷ xs) key ≡ true = has-In (x ∷ xs) key (inl s) in
    again-here x (xs ++ key ∷ []) here ∙ ap Some s ∙ rw t refl)
    (λ (n : x ≡ key → ⊥).
    let away : In x (xs ++ key ∷ []) → ⊥ = λ i. ⊎_elim (λ (a : In x xs). distinct-head x xs e a) (λ (b : In x (key ∷ [])). ⊎_elim (λ (s : key ≡ x). n (sym s)) (λ (z : ⊥). z) b) (In-append xs (key ∷ []) x i) in
    again-cons x (xs ++ key ∷ []) away ∙ again-push xs key (distinct-tail x xs e) ∙ rw (other_key x key n) refl)
    (cases_key x key)

module _ (src : Sources) where
  abbrev pub Never : Key → Type 0
  Never k = (n : ℕ) → IsDefinite (value_within src n k) → ⊥

  pub path_tail : (k : Key) (ks : List Key) → PathFrom src k ks → IsPath src ks
  path_tail k [] p = tt
  path_tail k (j ∷ js) p = p.1

  pub path_on : (k : Key) (ks : List Key) (j : Key) (js : List Key) → PathFrom src k (ks ++ j ∷ []) → PathFrom src j js → PathFrom src k (ks ++ j ∷ js)
  path_on k [] j js p q = (p.0, q)
  path_on k (x ∷ ks) j js p q = (p.0, path_on x ks j js p.1 q)

  pub path_append : (ks : List Key) (j : Key) (js : List Key) → IsPath src (ks ++ j ∷ []) → PathFrom src j js → IsPath src (ks ++ j ∷ js)
  path_append [] j js p q = q
  path_append (k ∷ ks) j js p q = path_on k ks j js p q

  -- Heights fall along a path.
  pub path_falls : (k : Key) (ks : List Key) → PathFrom src k ks → (j : Key) → In j ks → (n : ℕ) → IsDefinite (value_within src n k) → (m : ℕ) × (m < n) × IsDefinite (value_within src m j)
  path_falls k [] p j i n h = absurd i
  path_falls k (x ∷ xs) p j (inl s) n h = subst (λ y. (m : ℕ) × (m < n) × IsDefinite (value_within src m y)) s (falls src k x p.0 n h)
  path_falls k (x ∷ xs) p j (inr t) n h =
      let next = falls src k x p.0 n h in
      let end = path_falls x xs p.1 j t next.0 next.2 in
      (end.0, omega (arith, next.1, end.1), end.2)

  -- A key that stands on its own chain again has no definite answer.
  pub never_loops : (k : Key) (ks : List Key) → PathFrom src k ks → In k ks → Never k
  never_loops k ks p i n h = go n n (omega arith) h
    where
      go : (b n : ℕ) → n ≤ b → IsDefinite (value_within src n k) → ⊥
      go zero n le h' = let f = path_falls k ks p k i n h' in omega (arith, f.1)
      go (suc b) n le h' = let f = path_falls k ks p k i n h' in go b f.0 (omega (arith, f.1)) f.2

  -- where the fuel ran out there is a chain from the key
  pub out_chain : (n : ℕ) (key : Key) (c : List Key) → value_within src n key ≡ Err (out c) → (rest : List Key) × (c ≡ key ∷ rest) × PathFrom src key rest
  out_chain zero key c h = by_source (src key) refl
    where
      by_source : (s : Source) → src key ≡ s → (rest : List Key) × (c ≡ key ∷ rest) × PathFrom src key rest
      by_source refused e = let x = at_refused src zero key e in cc
      by_source (known v) e = let x : value_within src zero key ≡ Err (out (key ∷ [])) = within_zero src key ∙ ap (λ s. at_once s key) e in ([], (cc), tt)
      by_source (formula d) e = let x : value_within src zero key ≡ Err (out (key ∷ [])) = within_zero src key ∙ ap (λ s. at_once s key) e in ([], (cc), tt)
  out_chain (suc n) key c h = by_source (λ k c'. out_chain n k c') (src key) refl
    where
      at_end : (ih : (k : Key) (c' : List Key) → value_within src n k ≡ Err (out c') → (rest : List Key) × (c' ≡ k ∷ rest) × PathFrom src k rest)
          → (d : Inquiry) → src key ≡ formula d → (r : Result Value Halt) → outcome (value_within src n) d ≡ r → through key r ≡ Err (out c) → (rest : List Key) × (c ≡ key ∷ rest) × PathFrom src key rest
      at_end ih d e (Ok v) r h' = cc
      at_end ih d e (Err (fault f)) r h' = cc
      at_end ih d e (Err (out c')) r h' =
          let found = out_at (value_within src n) d c' r in
          let below = ih found.0 c' found.2 in
          (c', (cc), rw below.1 (record { fuel = n; inquiry = d; is_formula = e; asks = found.1 }, below.2))

      by_source : (ih : (k : Key) (c' : List Key) → value_within src n k ≡ Err (out c') → (rest : List Key) × (c' ≡ k ∷ rest) × PathFrom src k rest)
          → (s : Source) → src key ≡ s → (rest : List Key) × (c ≡ key ∷ rest) × PathFrom src key rest
      by_source ih refused e = let x = at_refused src (suc n) key e in cc
      by_source ih (known v) e = let x = at_known src n key v e in cc
      by_source ih (formula d) e = at_end ih d e (outcome (value_within src n) d) refl (sym (at_formula src n key d e) ∙ h)

  -- ==== a chain under a definite key ====

  -- A chain from a definite key has no key twice.
  pub chain_distinct : (k : Key) (ks : List Key) → PathFrom src k ks → (n : ℕ) → IsDefinite (value_within src n k) → first_again (k ∷ ks) ≡ None
  chain_distinct k [] p n h = refl
  chain_distinct k (j ∷ js) p n h =
      let next = falls src k j p.0 n h in
      again-cons k (j ∷ js) (λ i. never_loops k (j ∷ js) p i n h) ∙ chain_distinct j js p.1 next.0 next.2

  -- each key of the chain has a definite answer
  pub chain_definite : (k : Key) (ks : List Key) → PathFrom src k ks → (n : ℕ) → IsDefinite (value_within src n k) → (j : Key) → In j (k ∷ ks) → (m : ℕ) × IsDefinite (value_within src m j)
  chain_definite k ks p n h j (inl s) = (n, subst (λ y. IsDefinite (value_within src n y)) s h)
  chain_definite k ks p n h j (inr t) = let f = path_falls k ks p j t n h in (f.0, f.2)

  -- Where the stack's keys differ and the next key is definite at some fuel, no key of the whole chain stands twice.
  pub definite_chain : (stack : List Key) (key : Key) (rest : List Key) → IsPath src (stack ++ key ∷ rest) → PathFrom src key rest → first_again stack ≡ None → (n : ℕ) → IsDefinite (value_within src n key) → first_again (stack ++ key ∷ rest) ≡ None
  definite_chain [] key rest p q e n h = chain_distinct key rest q n h
  definite_chain (x ∷ stack) key rest p q e n h =
      let away : In x (stack ++ key ∷ rest) → ⊥ = λ i. ⊎_elim
      (λ (a : In x stack). distinct-head x stack e a)
      (λ (b : In x (key ∷ rest)). let f = chain_definite key rest q n h x b in never_loops x (stack ++ key ∷ rest) p i f.0 f.1)
      (In-append stack (key ∷ rest) x i) in
      again-cons x (stack ++ key ∷ rest) away ∙ definite_chain stack key rest (path_tail x (stack ++ key ∷ rest) p) q (distinct-tail x stack e) n h

  -- Below the stack, the fuel runs out under a key that is definite with more fuel: no key stands twice.
  pub too_tall : (stack : List Key) (key : Key) (n height : ℕ) (c : List Key) → IsPath src (stack ++ key ∷ []) → first_again stack ≡ None → IsDefinite (value_within src height key) → value_within src n key ≡ Err (out c) → first_again (stack ++ c) ≡ None
  too_tall stack key n height c p e h o =
      let ch = out_chain n key c o in
      rw ch.1 (definite_chain stack key ch.0 (path_append stack key ch.0 p ch.2) ch.2 e height h)

  -- ==== a key that is on the stack ====

  -- what comes before a key that is never definite is never definite
  pub never_before : (k : Key) (ks : List Key) → PathFrom src k ks → (j : Key) → In j ks → Never j → Never k
  never_before k ks p j i never n h = let f = path_falls k ks p j i n h in never f.0 f.2

  pub never_on : (k : Key) (ks : List Key) (end : Key) → PathFrom src k (ks ++ end ∷ []) → Never end → (j : Key) → In j (k ∷ ks) → Never j
  never_on k ks end p never j (inl s) = subst Never s (never_before k (ks ++ end ∷ []) p end (In-right ks (end ∷ []) end (inl refl)) never)
  never_on k [] end p never j (inr t) = absurd t
  never_on k (x ∷ ks) end p never j (inr t) = never_on x ks end p.1 never j t

  -- each key of a path asks for the next
  pub next_on : (k : Key) (ks : List Key) (end : Key) → PathFrom src k (ks ++ end ∷ []) → (j : Key) → In j (k ∷ ks) → (y : Key) × AsksFor src j y × (In y ks ⊎ (end ≡ y))
  next_on k [] end p j (inl s) = (end, subst (λ z. AsksFor src z end) s p.0, inr refl)
  next_on k [] end p j (inr t) = absurd t
  next_on k (x ∷ ks) end p j (inl s) = (x, subst (λ z. AsksFor src z x) s p.0, inl (inl refl))
  next_on k (x ∷ ks) end p j (inr t) =
      let found = next_on x ks end p.1 j t in
      (found.0, found.1, ⊎_elim (λ (a : In found.0 ks). inl (inr a)) (λ (b : end ≡ found.0). inr b) found.2)

  same_formula : (d e : Inquiry) → formula d ≡ formula e → d ≡ e
  same_formula d e h = cc

  -- A key asks for one key at most that is never definite.
  pub one_never : (k i j : Key) → AsksFor src k i → AsksFor src k j → Never i → Never j → i ≡ j
  one_never k i j a b ni nj =
      let same : a.inquiry ≡ b.inquiry = same_formula a.inquiry b.inquiry (sym a.is_formula ∙ b.is_formula) in
      let asks_j : In j (asked (value_within src b.fuel) a.inquiry) = rw same b.asks in
      ⊎_elim
      (λ (lt : a.fuel < b.fuel). one_open (value_within src a.fuel) (value_within src b.fuel) (stays src a.fuel b.fuel (omega arith)) a.inquiry i j a.asks asks_j (ni a.fuel) (ni b.fuel) (nj b.fuel))
      (λ (ge : b.fuel ≤ a.fuel). sym (one_open (value_within src b.fuel) (value_within src a.fuel) (stays src b.fuel a.fuel ge) a.inquiry j i asks_j a.asks (nj b.fuel) (nj a.fuel) (ni a.fuel)))
      (cases_lt a.fuel b.fuel)

  -- A path from a key of a cycle meets no other key that is never definite.
  module _ (key : Key) (ks : List Key) (loop : PathFrom src key (ks ++ key ∷ [])) where
    pub key_never : Never key
    key_never = never_loops key (ks ++ key ∷ []) loop (In-right ks (key ∷ []) key (inl refl))

    pub in_cycle : (x y : Key) → In x (key ∷ ks) → AsksFor src x y → Never y → In y (key ∷ ks)
    in_cycle x y i a never =
        let next = next_on key ks key loop x i in
        let member : In next.0 (key ∷ ks) = ⊎_elim (λ (b : In next.0 ks). inr b) (λ (b : key ≡ next.0). inl b) next.2 in
        let same : next.0 ≡ y = one_never x next.0 y next.1 a (never_on key ks key loop key_never next.0 member) never in
        subst (λ z. In z (key ∷ ks)) same member

    pub stays_in_cycle : (x : Key) (xs : List Key) → PathFrom src x xs → In x (key ∷ ks) → (j : Key) → In j xs → Never j → In j (key ∷ ks)
    stays_in_cycle x [] p i j t never = absurd t
    stays_in_cycle x (y ∷ ys) p i j (inl s) never = subst (λ z. In z (key ∷ ks)) s (in_cycle x y i p.0 (subst Never (sym s) never))
    stays_in_cycle x (y ∷ ys) p i j (inr t) never = stays_in_cycle y ys p.1 (in_cycle x y i p.0 (never_before y ys p.1 j t never)) j t never

  -- the part of the stack from the key on, and that it is a cycle
  pub cycle_in : (stack : List Key) (key : Key) → IsPath src (stack ++ key ∷ []) → In key stack → (ks : List Key) × PathFrom src key (ks ++ key ∷ []) × ((j : Key) → In j (key ∷ ks) → In j stack)
  cycle_in [] key p i = absurd i
  cycle_in (x ∷ stack) key p (inl s) = (stack, subst (λ y. PathFrom src y (stack ++ key ∷ [])) s p, λ j a. subst (λ y. In j (y ∷ stack)) (sym s) a)
  cycle_in (x ∷ stack) key p (inr t) =
      let below = cycle_in stack key (path_tail x (stack ++ key ∷ []) p) t in
      (below.0, below.1, λ j a. inr (below.2 j a))

  pub on_stack_never : (stack : List Key) (key : Key) → IsPath src (stack ++ key ∷ []) → In key stack → Never key
  on_stack_never stack key p i = let cycle = cycle_in stack key p i in key_never key cycle.0 cycle.1

  pub cycle_chain : (stack : List Key) (key : Key) (rest : List Key) → IsPath src (stack ++ key ∷ []) → first_again stack ≡ None → In key stack → PathFrom src key rest → first_again (stack ++ key ∷ rest) ≡ Some key
  cycle_chain [] key rest p e i q = absurd i
  cycle_chain (x ∷ stack) key rest p e i q = ⊎_elim
      (λ (s : x ≡ key). again-here x (stack ++ key ∷ rest) (In-right stack (key ∷ rest) x (inl (sym s))) ∙ ap Some s)
      (λ (n : x ≡ key → ⊥).
      let below : In key stack = ⊎_elim (λ (s : x ≡ key). absurd (n s)) (λ (t : In key stack). t) i in
      let tail = path_tail x (stack ++ key ∷ []) p in
      let cycle = cycle_in stack key tail below in
      let never_key : Never key = on_stack_never stack key tail below in
      let never_x : Never x = never_before x (stack ++ key ∷ []) p key (In-right stack (key ∷ []) key (inl refl)) never_key in
      let away : In x (stack ++ key ∷ rest) → ⊥ = λ a. ⊎_elim
      (λ (b : In x stack). distinct-head x stack e b)
      (λ (b : In x (key ∷ rest)). ⊎_elim
      (λ (s : key ≡ x). n (sym s))
      (λ (t : In x rest). distinct-head x stack e (cycle.2 x (stays_in_cycle key cycle.0 cycle.1 key rest q (inl refl) x t never_x)))
      b)
      (In-append stack (key ∷ rest) x a) in
      again-cons x (stack ++ key ∷ rest) away ∙ cycle_chain stack key rest tail (distinct-tail x stack e) below q)
      (cases_key x key)

  -- Below the stack, the fuel runs out under a key of the stack: that key is the first to stand twice.
  pub on_stack : (stack : List Key) (key : Key) (n : ℕ) (c : List Key) → IsPath src (stack ++ key ∷ []) → first_again stack ≡ None → In key stack → value_within src n key ≡ Err (out c) → first_again (stack ++ c) ≡ Some key
  on_stack stack key n c p e i o =
      let ch = out_chain n key c o in
      rw ch.1 (cycle_chain stack key ch.0 p e i ch.2)
