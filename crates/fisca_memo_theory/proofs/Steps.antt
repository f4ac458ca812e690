-- The formula of the last key of a stack: of its inquiry q, now is left.
use Rattle.std.proofs.Common.{◌≡◌, ◌⊎◌, inl, inr, ℕ, suc, ◌+◌, max, List, [], ◌∷◌, ◌++◌, append_assoc, Result, Ok, Err, refl, sym, ap, subst, ◌∙◌, arith, ⊎_elim}
use Rattle.std.proofs.lemmas.List.{append-nil}
use Rattle.fisca_model.specs.Values.{Value, Key}
use Rattle.fisca_key_semantics.specs.Answers.{Halt, fault, out, Sources, formula, outcome, through, value_within, verdict}
use Rattle.fisca_key_semantics.specs.Chains.{IsPath, AsksFor, on_value, asked}
use Rattle.fisca_model.specs.Causes.{Fault}
use Rattle.fisca_key_semantics.specs.Inquiry.{Inquiry, gives, fails, asks}
use Rattle.fisca_key_semantics.specs.Keys.{In}
use Rattle.fisca_key_semantics.specs.Stacks.{first_of, settled_below, left_below, answer_below, ends_below}
use Rattle.fisca_key_semantics.proofs.Fuel.{at_formula}
use Rattle.fisca_key_semantics.proofs.Paths.{In-append, path_append}
use Rattle.fisca_memo_theory.specs.Gathered.{IsGathered, keys_of}
use Rattle.fisca_memo_theory.specs.Memory.{IsKnown}
use Rattle.fisca_memo_theory.specs.Stacks.{IsStack, IsWorking}
use Rattle.fisca_memo_theory.specs.Work.{IsWork, Covered, Passed, PassedPath}
use Rattle.fisca_memo_theory.proofs.Gathering.{leads_asked, gathered_asks, gathered_ends, gathered_stops, gathered_more, gathered_wider, gathered_all}
use Rattle.fisca_memo_theory.proofs.Growing.{asked_work}
use Rattle.fisca_memo_theory.proofs.WorkDone.{covered_value, work_stopped, passed_by, passed_append}

through_ok : (key : Key) (r : Result Value Halt) (v : Value) → through key r ≡ Ok v → r ≡ Ok v
through_ok key (Ok w) v e = e
through_ok key (Err (fault f)) v e = cc
through_ok key (Err (out c)) v e = cc

-- the first of a stack that has a key is no other
first_any : (below : List Key) (key i j : Key) → first_of (below ++ key ∷ []) i ≡ first_of (below ++ key ∷ []) j
first_any [] key i j = refl
first_any (k ∷ ks) key i j = refl

-- what more is there
pub covered_wider : (src : Sources) (M M' : Key → Type 0) → ((k : Key) → M k → M' k) → (j : Key) → Covered src M j → Covered src M' j
covered_wider src M M' up j c n k w = up k (c n k w)

module _ (src : Sources) (stack : List Key) (key : Key) (q now : Inquiry) (tallest : ℕ) (M : Key → Type 0)
    (is_formula : src key ≡ formula q) (gathered : IsGathered src (left_below stack) q now tallest (Covered src M)) where
  abbrev n : ℕ
  n = left_below stack

  abbrev P : Key → Type 0
  P = Covered src M

  -- it gives a value
  module _ (v : Value) (e : now ≡ gives v) where
    pub worked_value : IsKnown src (suc (left_below stack)) key v (tallest + 1)
    worked_value =
        let all = gathered_all src n key q now tallest P v is_formula gathered e in
        let b : tallest + 1 ≡ suc tallest = omega arith in
        record { answers = all.0; height_is = rw b all.1 }

    ends_so : outcome (value_within src n) q ≡ Ok v
    ends_so = gathered_ends src n q now tallest P gathered ∙ ap (outcome (value_within src n)) e

    pub worked_answer : ends_below src stack key q ≡ Ok v
    worked_answer = ap (settled_below stack key) ends_so

  -- where nothing more is asked for, the work of all that was asked for is there
  ended : (j : Key) → asked (value_within src n) now ≡ [] → In j (asked (value_within src n) q) → P j
  ended j e i = gathered.all j (subst (In j) (leads_asked (value_within src n) gathered.done q now gathered.leads gathered.right ∙ ap (λ x. keys_of gathered.done ++ x) e ∙ append-nil (keys_of gathered.done)) i)

  -- all work of the key but itself is there
  pub worked_all : (v : Value) → now ≡ gives v → (m : ℕ) (k : Key) → IsWork src m key k → (k ≡ key) ⊎ M k
  worked_all v e =
      covered_value src (λ k. (k ≡ key) ⊎ M k) n key q is_formula (rw (ends_so v e) tt) (λ j i m k x. inr (ended j (ap (asked (value_within src n)) e) i m k x)) (inl refl)

  -- it fails
  module _ (f : Fault) (e : now ≡ fails f) where
    fails_so : outcome (value_within src n) q ≡ Err (fault f)
    fails_so = gathered_ends src n q now tallest P gathered ∙ ap (outcome (value_within src n)) e

    pub worked_fault : ends_below src stack key q ≡ Err f
    worked_fault = ap (settled_below stack key) fails_so

    pub fault_stopped : (k : Key) → IsWork src (suc (left_below stack)) key k → M k
    fault_stopped k x =
        let lacks : (v : Value) → value_within src (suc n) key ≡ Ok v → ⊥ = λ v a. let b : through key (Err (fault f)) ≡ Ok v = ap (through key) (sym fails_so) ∙ sym (at_formula src n key q is_formula) ∙ a in cc in
        work_stopped src M n key q is_formula lacks (λ j i k' y. ended j (ap (asked (value_within src n)) e) i n k' y) k x

  -- it asks for j
  module _ (j : Key) (go : Value → Inquiry) (is : now ≡ asks j go) where
    needs_in : In j (asked (value_within src n) q)
    needs_in = gathered_asks src n q now tallest P gathered j go is

    needs_of_key : AsksFor src key j
    needs_of_key = record { fuel = n; inquiry = q; is_formula = is_formula; asks = needs_in }

    pub needed_stack : IsWorking src stack key → IsStack src stack j
    needed_stack s =
        let path : IsPath src (s.below ++ key ∷ j ∷ []) = path_append src s.below key (j ∷ []) (subst (IsPath src) s.ends_so s.path) (needs_of_key, tt) in
        let shape : stack ++ j ∷ [] ≡ s.below ++ key ∷ j ∷ [] = ap (λ l. l ++ j ∷ []) s.ends_so ∙ append_assoc s.below (key ∷ []) (j ∷ []) in
        record { path = subst (IsPath src) (sym shape) path; distinct = s.distinct }

    pub needed_fault : IsWorking src stack key → (f : Fault) → answer_below src stack j ≡ Err f → ends_below src stack key q ≡ Err f
    needed_fault s f h = by_answer (value_within src n j) refl h
      where
        first_same : first_of stack key ≡ first_of stack j
        first_same = ap (λ l. first_of l key) s.ends_so ∙ first_any s.below key key j ∙ ap (λ l. first_of l j) (sym s.ends_so)

        settled_same : (x : Halt) → settled_below stack key (Err x) ≡ settled_below stack j (Err x)
        settled_same (fault g) = refl
        settled_same (out c) = ap (λ k. Err (verdict k (stack ++ c))) first_same

        by_answer : (x : Result Value Halt) → value_within src n j ≡ x → settled_below stack j x ≡ Err f → ends_below src stack key q ≡ Err f
        by_answer (Ok v) a h' = cc
        by_answer (Err x) a h' = ap (settled_below stack key) (gathered_stops src n q now tallest P gathered j go is x a) ∙ settled_same x ∙ h'

    -- one more answer, and more is there
    pub needed_more : (M' : Key → Type 0) → ((k : Key) → M k → M' k) → (v : Value) (h : ℕ) → IsKnown src (left_below stack) j v h → Covered src M' j
        → IsGathered src (left_below stack) q (go v) (max tallest h) (Covered src M')
    needed_more M' up v h known c =
        gathered_more src n q now tallest (Covered src M') (gathered_wider src n q now tallest P (Covered src M') (covered_wider src M M' up) gathered) j go is v h known.answers known.height_is c

    -- the work of what is asked for is of the work of the key
    pub needs_work : (k : Key) → IsWork src (left_below stack) j k → IsWork src (suc (left_below stack)) key k
    needs_work k x = asked_work src n key j q is_formula needs_in k x

    -- where it has no value, the key has none, and no more is of its work
    pub needs_stopped : (f : Fault) → answer_below src stack j ≡ Err f → ((k : Key) → IsWork src (left_below stack) j k → M k) → (k : Key) → IsWork src (suc (left_below stack)) key k → M k
    needs_stopped f h below k x = work_stopped src M n key q is_formula (λ v a. no_value (value_within src n j) refl v a) (λ i a k' y. by_key i k' y a) k x
      where
        lacks : (v : Value) → value_within src n j ≡ Ok v → ⊥
        lacks v a = let b : settled_below stack j (Ok v) ≡ Err f = ap (settled_below stack j) (sym a) ∙ h in cc

        open_end : (x : Result Value Halt) → value_within src n j ≡ x → on_value x (λ v. asked (value_within src n) (go v)) ≡ []
        open_end (Ok v) a = absurd (lacks v a)
        open_end (Err x) a = refl

        list : asked (value_within src n) q ≡ keys_of gathered.done ++ j ∷ []
        list = leads_asked (value_within src n) gathered.done q now gathered.leads gathered.right ∙ ap (λ x. keys_of gathered.done ++ asked (value_within src n) x) is ∙ ap (λ x. keys_of gathered.done ++ j ∷ x) (open_end (value_within src n j) refl)

        by_key : (i k : Key) → IsWork src n i k → In i (asked (value_within src n) q) → M k
        by_key i k y a = ⊎_elim
            (λ (b : In i (keys_of gathered.done)). gathered.all i b n k y)
            (λ (b : In i (j ∷ [])). ⊎_elim (λ (s : j ≡ i). below k (subst (λ z. IsWork src n z k) (sym s) y)) (λ (z : ⊥). absurd z) b)
            (In-append (keys_of gathered.done) (j ∷ []) i (subst (In i) list a))

        no_value : (x : Result Value Halt) → value_within src n j ≡ x → (v : Value) → value_within src (suc n) key ≡ Ok v → ⊥
        no_value (Ok u) a v b = lacks u a
        no_value (Err x) a v b =
            let end : outcome (value_within src n) q ≡ Err x = gathered_stops src n q now tallest P gathered j go is x a in
            let c : outcome (value_within src n) q ≡ Ok v = through_ok key (outcome (value_within src n) q) v (sym (at_formula src n key q is_formula) ∙ b) in
            cc

    pub needs_passed : IsWorking src stack key → PassedPath src M stack → PassedPath src M (stack ++ j ∷ [])
    needs_passed s p =
        let by : Passed src M key j = passed_by src M n key j q now tallest go is_formula gathered is in
        let path : PassedPath src M (s.below ++ key ∷ j ∷ []) = passed_append src M s.below key j (subst (PassedPath src M) s.ends_so p) by in
        let shape : stack ++ j ∷ [] ≡ s.below ++ key ∷ j ∷ [] = ap (λ l. l ++ j ∷ []) s.ends_so ∙ append_assoc s.below (key ∷ []) (j ∷ []) in
        subst (PassedPath src M) (sym shape) path
