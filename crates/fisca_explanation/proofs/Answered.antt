-- The answers that are listed: values are those of their keys, and a fault is that of the key that is explained.
use Rattle.std.proofs.Common.{◌≡◌, inl, inr, ℕ, zero, suc, ◌+◌, List, [], ◌∷◌, ◌++◌, length, length-append, Result, Ok, Err, refl, sym, ap, ◌∙◌, subst, arith, ⊎_elim}
use Rattle.fisca_model.specs.Causes.{Fault}
use Rattle.fisca_model.specs.Values.{Value, Key}
use Rattle.fisca_num.specs.Results.{and_then}
use Rattle.fisca_key_semantics.specs.Answers.{Halt, fault, out, Sources, Oracle, answer, outcome, settled, value_within, verdict}
use Rattle.fisca_key_semantics.specs.Chains.{asked, on_value}
use Rattle.fisca_key_semantics.specs.Inquiry.{Inquiry, gives, fails, asks}
use Rattle.fisca_key_semantics.specs.Keys.{In}
use Rattle.fisca_key_semantics.specs.Stacks.{answer_below, first_of, left_below, settled_below}
use Rattle.fisca_key_semantics.proofs.Below.{answer_alone, below_formula, below_ok}
use Rattle.fisca_key_semantics.proofs.Fuel.{stays}
use Rattle.fisca_explanation.specs.Explanations.{Line, explanation_within}
use Rattle.fisca_explanation.specs.Listed.{Among}
use Rattle.fisca_explanation.proofs.Lines.{IsBelow, IsOwn, own_suc, own_zero}

-- a key without a value ends what asks for it
pub ends_with : (W : Oracle) (d : Inquiry) (k : Key) (h : Halt) → In k (asked W d) → W k ≡ Err h → outcome W d ≡ Err h
ends_with W (gives v) k h i e = absurd i
ends_with W (fails f) k h i e = absurd i
ends_with W (asks q go) k h (inl s) e = ap (λ r. and_then r (λ v. outcome W (go v))) (ap W s ∙ e)
ends_with W (asks q go) k h (inr t) e = by_answer (λ v i. ends_with W (go v) k h i e) (W q) t
  where
    by_answer : ((v : Value) → In k (asked W (go v)) → outcome W (go v) ≡ Err h) → (r : Result Value Halt) → In k (on_value r (λ v. asked W (go v))) → and_then r (λ v. outcome W (go v)) ≡ Err h
    by_answer ih (Ok v) t' = ih v t'
    by_answer ih (Err x) t' = absurd t'

module _ (src : Sources) where
  pub value_of : (line : Line) (v : Value) → line.answer ≡ answer_below src line.path line.key → line.answer ≡ Ok v → answer src line.key ≡ Ok v
  unfolding answer
  value_of line v is there =
      let here = below_ok line.path line.key (value_within src (left_below line.path) line.key) v (sym is ∙ there) in
      ap (settled line.key) (stays src (left_below line.path) 100 (omega arith) line.key (rw here tt) ∙ here)

  -- the first key of a path that is not empty
  first_alike : (path : List Key) (key k : Key) → first_of (path ++ key ∷ []) k ≡ first_of (path ++ key ∷ []) key
  first_alike [] key k = refl
  first_alike (x ∷ xs) key k = refl

  halted : (path : List Key) (key k : Key) (f : Fault) (r : Result Value Halt) → settled_below (path ++ key ∷ []) k r ≡ Err f
      → (h : Halt) × (r ≡ Err h) × (settled_below (path ++ key ∷ []) key (Err h) ≡ Err f)
  halted path key k f (Ok v) e = absurd (cc)
  halted path key k f (Err (fault g)) e = (fault g, refl, e)
  halted path key k f (Err (out chain)) e =
      (out chain, refl, ap (λ first. Err (verdict first ((path ++ key ∷ []) ++ chain))) (sym (first_alike path key k)) ∙ e)

  pub same_fault : (n : ℕ) (path before : List Key) (key : Key) (line : Line) (f : Fault) → n + length path ≡ 100 → Among line (explanation_within src n path before key).lines → line.answer ≡ Err f
      → answer_below src path key ≡ Err f
  same_fault zero path before key line f room i e =
      let own = own_zero src path before key line i in
      sym (ap (λ (l : Line). l.answer) own.1) ∙ e
  same_fault (suc n) path before key line f room i e = ⊎_elim
      (λ (own : IsOwn src path key line). sym (ap (λ (l : Line). l.answer) own.1) ∙ e)
      (λ (below : IsBelow src n path key line).
      let stack = path ++ key ∷ [] in
      let long : length stack ≡ suc (length path) = omega (arith, length-append path (key ∷ [])) in
      let left : left_below stack ≡ n = omega (arith, long, room) in
      let there = same_fault n stack below.before below.next line f (omega (arith, long, room)) below.there e in
      let stop = halted path key below.next f (value_within src (left_below stack) below.next) there in
      let asks : In below.next (asked (value_within src (left_below stack)) below.inquiry) = subst (λ m. In below.next (asked (value_within src m) below.inquiry)) (sym left) below.asks in
      below_formula src path key below.inquiry below.is_formula (omega (arith, room))
      ∙ (ap (settled_below stack key) (ends_with (value_within src (left_below stack)) below.inquiry below.next stop.0 asks stop.1) ∙ stop.2))
      (own_suc src n path before key line i)

  pub fault_of : (key : Key) (line : Line) (f : Fault) → Among line (explanation_within src 100 [] [] key).lines → line.answer ≡ Err f → answer src key ≡ Err f
  fault_of key line f i e = answer_alone src key ∙ same_fault 100 [] [] key line f refl i e
