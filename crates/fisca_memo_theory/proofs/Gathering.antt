-- The work for a key, question by question.
use Rattle.std.proofs.Common.{◌≡◌, inl, ℕ, zero, suc, ◌≤◌, max, List, [], ◌∷◌, ◌++◌, Ok, Err, refl, sym, ap, subst, ◌∙◌, arith, ⊎_elim}
use Rattle.std.proofs.lemmas.List.{append-nil}
use Rattle.fisca_num.specs.Results.{and_then}
use Rattle.fisca_model.specs.Values.{Value, Key}
use Rattle.fisca_key_semantics.specs.Answers.{Halt, Sources, Oracle, formula, outcome, through, value_within}
use Rattle.fisca_key_semantics.specs.Chains.{IsDefinite, IsHeight, on_value, asked}
use Rattle.fisca_key_semantics.specs.Inquiry.{Inquiry, gives, asks}
use Rattle.fisca_key_semantics.specs.Keys.{In}
use Rattle.fisca_key_semantics.proofs.Runs.{ends_same, asked_definite}
use Rattle.fisca_key_semantics.proofs.Fuel.{within_zero, at_formula, definite_stays, through_definite, definite_through}
use Rattle.fisca_key_semantics.proofs.Paths.{In-append, In-left, In-right}
use Rattle.fisca_memo_theory.specs.Gathered.{IsGathered, Leads, AreRight, keys_of}
use Rattle.fisca_memo_theory.proofs.Heights.{same_answer, same_asked}

-- where the answers are right, what is left ends as the whole does
pub leads_ends : (W : Oracle) (ps : List (Key × Value)) (d now : Inquiry) → Leads ps d now → AreRight W ps → outcome W d ≡ outcome W now
leads_ends W [] d now l r = ap (outcome W) l
leads_ends W (p ∷ ps) d now l r = ap (outcome W) l.1.0 ∙ ap (λ x. and_then x (λ v. outcome W (l.0 v))) r.0 ∙ leads_ends W ps (l.0 p.1) now l.1.1 r.1

pub leads_asked : (W : Oracle) (ps : List (Key × Value)) (d now : Inquiry) → Leads ps d now → AreRight W ps → asked W d ≡ keys_of ps ++ asked W now
leads_asked W [] d now l r = ap (asked W) l
leads_asked W (p ∷ ps) d now l r = ap (asked W) l.1.0 ∙ ap (λ x. p.0 ∷ on_value x (λ v. asked W (l.0 v))) r.0 ∙ ap (λ x. p.0 ∷ x) (leads_asked W ps (l.0 p.1) now l.1.1 r.1)

leads_more : (ps : List (Key × Value)) (d now : Inquiry) (k : Key) (v : Value) (go : Value → Inquiry) → Leads ps d now → now ≡ asks k go → Leads (ps ++ (k, v) ∷ []) d (go v)
leads_more [] d now k v go l e = (go, (l ∙ e, refl))
leads_more (p ∷ ps) d now k v go l e = (l.0, (l.1.0, leads_more ps (l.0 p.1) now k v go l.1.1 e))

right_more : (W : Oracle) (ps : List (Key × Value)) (k : Key) (v : Value) → AreRight W ps → W k ≡ Ok v → AreRight W (ps ++ (k, v) ∷ [])
right_more W [] k v r e = (e, tt)
right_more W (p ∷ ps) k v r e = (r.0, right_more W ps k v r.1 e)

keys_more : (ps : List (Key × Value)) (k : Key) (v : Value) → keys_of (ps ++ (k, v) ∷ []) ≡ keys_of ps ++ k ∷ []
keys_more [] k v = refl
keys_more (p ∷ ps) k v = ap (λ x. p.0 ∷ x) (keys_more ps k v)

pub right_wider : (W W' : Oracle) (ps : List (Key × Value)) → ((k : Key) (v : Value) → W k ≡ Ok v → W' k ≡ Ok v) → AreRight W ps → AreRight W' ps
right_wider W W' [] h r = tt
right_wider W W' (p ∷ ps) h r = (h p.0 p.1 r.0, right_wider W W' ps h r.1)

module _ (src : Sources) where
  pub gathered_none : (n : ℕ) (d now : Inquiry) (P : Key → Type 0) → d ≡ now → IsGathered src n d now 0 P
  gathered_none n d now P e = record {
    done = [];
    leads = e;
    right = tt;
    enough = λ k i. absurd i;
    least = λ m h. omega arith;
    low = omega arith;
    all = λ k i. absurd i;
  }

  -- what is asked for next is asked for
  pub gathered_asks : (n : ℕ) (d now : Inquiry) (tallest : ℕ) (P : Key → Type 0) → IsGathered src n d now tallest P → (j : Key) (go : Value → Inquiry) → now ≡ asks j go → In j (asked (value_within src n) d)
  gathered_asks n d now tallest P g j go e =
      subst (In j) (sym (leads_asked (value_within src n) g.done d now g.leads g.right ∙ ap (λ x. keys_of g.done ++ asked (value_within src n) x) e))
      (In-right (keys_of g.done) (j ∷ on_value (value_within src n j) (λ v. asked (value_within src n) (go v))) j (inl refl))

  -- and what ends it ends the whole
  pub gathered_ends : (n : ℕ) (d now : Inquiry) (tallest : ℕ) (P : Key → Type 0) → IsGathered src n d now tallest P → outcome (value_within src n) d ≡ outcome (value_within src n) now
  gathered_ends n d now tallest P g = leads_ends (value_within src n) g.done d now g.leads g.right

  pub gathered_stops : (n : ℕ) (d now : Inquiry) (tallest : ℕ) (P : Key → Type 0) → IsGathered src n d now tallest P → (j : Key) (go : Value → Inquiry) → now ≡ asks j go → (h : Halt) → value_within src n j ≡ Err h → outcome (value_within src n) d ≡ Err h
  gathered_stops n d now tallest P g j go e h a = gathered_ends n d now tallest P g ∙ ap (outcome (value_within src n)) e ∙ ap (λ r. and_then r (λ v. outcome (value_within src n) (go v))) a

  pub gathered_wider : (n : ℕ) (d now : Inquiry) (tallest : ℕ) (P Q : Key → Type 0) → ((k : Key) → P k → Q k) → IsGathered src n d now tallest P → IsGathered src n d now tallest Q
  gathered_wider n d now tallest P Q up g = record {
    done = g.done;
    leads = g.leads;
    right = g.right;
    enough = g.enough;
    least = g.least;
    low = g.low;
    all = λ k i. up k (g.all k i);
  }

  -- one more answer
  pub gathered_more : (n : ℕ) (d now : Inquiry) (tallest : ℕ) (P : Key → Type 0) → IsGathered src n d now tallest P → (j : Key) (go : Value → Inquiry) → now ≡ asks j go → (v : Value) (h : ℕ) → value_within src n j ≡ Ok v → IsHeight src j h → P j
      → IsGathered src n d (go v) (max tallest h) P
  gathered_more n d now tallest P g j go e v h a height p = record {
    done = g.done ++ (j, v) ∷ [];
    leads = leads_more g.done d now j v go g.leads e;
    right = right_more (value_within src n) g.done j v g.right a;
    enough = λ k i. by_case (λ k. IsDefinite (value_within src (max tallest h) k)) k i (λ q. definite_stays src tallest (max tallest h) (omega arith) k (g.enough k q)) (definite_stays src h (max tallest h) (omega arith) j height.enough);
    least = λ m all.
        let old : (k : Key) → In k (keys_of g.done) → IsDefinite (value_within src m k) = λ k i. all k (rw (keys_more g.done j v) (In-left (keys_of g.done) (j ∷ []) k i)) in
        let b : tallest ≤ m = g.least m old in
        let c : h ≤ m = height.least m (all j (rw (keys_more g.done j v) (In-right (keys_of g.done) (j ∷ []) j (inl refl)))) in
        omega arith;
    low = let b = g.low in let c : h ≤ n = height.least n (rw a tt) in omega arith;
    all = λ k i. by_case P k i (λ q. g.all k q) p;
  }
    where
      by_case : (Q : Key → Type 0) (k : Key) → In k (keys_of (g.done ++ (j, v) ∷ [])) → (In k (keys_of g.done) → Q k) → Q j → Q k
      by_case Q k i f here = ⊎_elim f (λ (b : In k (j ∷ [])). ⊎_elim (λ (s : j ≡ k). subst Q s here) (λ (z : ⊥). absurd z) b) (In-append (keys_of g.done) (j ∷ []) k (subst (In k) (keys_more g.done j v) i))

  -- The formula's value: the key has it, and one more than the greatest height.
  pub gathered_all : (n : ℕ) (key : Key) (d now : Inquiry) (tallest : ℕ) (P : Key → Type 0) (v : Value) → src key ≡ formula d → IsGathered src n d now tallest P → now ≡ gives v → (value_within src (suc n) key ≡ Ok v) × IsHeight src key (suc tallest)
  gathered_all n key d now tallest P v e g is = (at_formula src n key d e ∙ ap (through key) end, record { enough = enough; least = λ m h. least m h })
    where
      end : outcome (value_within src n) d ≡ Ok v
      end = gathered_ends n d now tallest P g ∙ ap (outcome (value_within src n)) is

      def : IsDefinite (outcome (value_within src n) d)
      def = rw end tt

      list : asked (value_within src n) d ≡ keys_of g.done
      list = leads_asked (value_within src n) g.done d now g.leads g.right ∙ ap (λ x. keys_of g.done ++ asked (value_within src n) x) is ∙ append-nil (keys_of g.done)

      enough : IsDefinite (value_within src (suc tallest) key)
      enough =
          let same = ends_same (value_within src n) (value_within src tallest) d (λ k i. same_answer src tallest n k (g.enough k (subst (In k) list i)) (asked_definite (value_within src n) d def k i)) in
          rw (at_formula src tallest key d e) (definite_through key _ (rw same.0 def))

      least : (m : ℕ) → IsDefinite (value_within src m key) → suc tallest ≤ m
      least zero h = absurd (rw (within_zero src key, e) at h)
      least (suc m) h =
          let at_m : IsDefinite (outcome (value_within src m) d) = through_definite key _ (subst IsDefinite (at_formula src m key d e) h) in
          let same = same_asked src n m d def at_m in
          let le : tallest ≤ m = g.least m (λ k i. asked_definite (value_within src m) d at_m k (subst (In k) same (subst (In k) (sym list) i))) in
          omega (arith, le)
