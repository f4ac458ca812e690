-- An inquiry with two oracles.
use Rattle.std.proofs.Common.{◌≡◌, ◌⊎◌, inl, inr, List, ◌∷◌, Result, Ok, Err, refl, sym, ap, ◌∙◌}
use Rattle.fisca_num.specs.Results.{and_then}
use Rattle.fisca_model.specs.Values.{Value, Key}
use Rattle.fisca_key_semantics.specs.Answers.{Halt, fault, out, Oracle, outcome}
use Rattle.fisca_key_semantics.specs.Chains.{IsDefinite, on_value, asked}
use Rattle.fisca_key_semantics.specs.Inquiry.{Inquiry, gives, fails, asks}
use Rattle.fisca_key_semantics.specs.Keys.{In}

-- W' answers as W does wherever W is definite
abbrev pub Extends : Oracle → Oracle → Type 0
Extends W W' = (k : Key) → IsDefinite (W k) → W' k ≡ W k

-- An inquiry depends on the answers to what it asks alone.
pub ends_same : (W W' : Oracle) (d : Inquiry) → ((k : Key) → In k (asked W d) → W' k ≡ W k) → (outcome W' d ≡ outcome W d) × (asked W' d ≡ asked W d)
ends_same W W' (gives v) h = (refl, refl)
ends_same W W' (fails f) h = (refl, refl)
ends_same W W' (asks k go) h =
    let here : W' k ≡ W k = h k (inl refl) in
    let both = by_answer (W k) (λ v i. ends_same W W' (go v) i) (λ j i. h j (inr i)) in
    (rw here both.0, rw here (ap (λ t. k ∷ t) both.1))
  where
    by_answer : (r : Result Value Halt)
        → ((v : Value) → ((j : Key) → In j (asked W (go v)) → W' j ≡ W j) → (outcome W' (go v) ≡ outcome W (go v)) × (asked W' (go v) ≡ asked W (go v)))
        → ((j : Key) → In j (on_value r (λ v. asked W (go v))) → W' j ≡ W j)
        → (and_then r (λ v. outcome W' (go v)) ≡ and_then r (λ v. outcome W (go v))) × (on_value r (λ v. asked W' (go v)) ≡ on_value r (λ v. asked W (go v)))
    by_answer (Ok v) ih h' = ih v h'
    by_answer (Err e) ih h' = (refl, refl)

-- Where the end is definite, so is each answer.
pub asked_definite : (W : Oracle) (d : Inquiry) → IsDefinite (outcome W d) → (k : Key) → In k (asked W d) → IsDefinite (W k)
asked_definite W (gives v) h k i = absurd i
asked_definite W (fails f) h k i = absurd i
asked_definite W (asks q go) h k i = by_answer (λ v. asked_definite W (go v)) (W q) refl h i
  where
    by_answer : ((v : Value) → IsDefinite (outcome W (go v)) → (k : Key) → In k (asked W (go v)) → IsDefinite (W k))
        → (r : Result Value Halt) → W q ≡ r → IsDefinite (and_then r (λ v. outcome W (go v))) → (q ≡ k) ⊎ In k (on_value r (λ v. asked W (go v))) → IsDefinite (W k)
    by_answer ih (Ok v) e h' (inl s) = rw (← s, e) tt
    by_answer ih (Ok v) e h' (inr t) = ih v h' k t
    by_answer ih (Err (fault f)) e h' (inl s) = rw (← s, e) tt
    by_answer ih (Err (fault f)) e h' (inr t) = absurd t
    by_answer ih (Err (out c)) e h' t = absurd h'

-- With better answers a definite end stays.
pub ends_stays : (W W' : Oracle) → Extends W W' → (d : Inquiry) → IsDefinite (outcome W d) → (outcome W' d ≡ outcome W d) × (asked W' d ≡ asked W d)
ends_stays W W' better d h = ends_same W W' d (λ k i. better k (asked_definite W d h k i))

-- With better answers each key is still asked for.
pub asked_stays : (W W' : Oracle) → Extends W W' → (d : Inquiry) → (k : Key) → In k (asked W d) → In k (asked W' d)
asked_stays W W' better (gives v) k i = i
asked_stays W W' better (fails f) k i = i
asked_stays W W' better (asks q go) k (inl s) = inl s
asked_stays W W' better (asks q go) k (inr t) = inr (by_answer (λ v. asked_stays W W' better (go v) k) (W q) refl t)
  where
    by_answer : ((v : Value) → In k (asked W (go v)) → In k (asked W' (go v)))
        → (r : Result Value Halt) → W q ≡ r → In k (on_value r (λ v. asked W (go v))) → In k (on_value (W' q) (λ v. asked W' (go v)))
    by_answer ih (Ok v) e t =
        let same : W' q ≡ Ok v = better q (rw e tt) ∙ e in
        rw same (ih v t)
    by_answer ih (Err f) e t = absurd t

-- Only the last key asked for can be without a definite answer, so there is one at most, also with better answers.
pub one_open : (W W' : Oracle) → Extends W W' → (d : Inquiry) (j k : Key) → In j (asked W d) → In k (asked W' d) → (IsDefinite (W j) → ⊥) → (IsDefinite (W' j) → ⊥) → (IsDefinite (W' k) → ⊥) → j ≡ k
one_open W W' better (gives v) j k i i' n n' m = absurd i
one_open W W' better (fails f) j k i i' n n' m = absurd i
one_open W W' better (asks q go) j k i i' n n' m = by_answer (λ v a b. one_open W W' better (go v) j k a b n n' m) (W q) refl i i'
  where
    first_only : IsDefinite (W q) → In j (asked W (asks q go)) → In j (on_value (W q) (λ v. asked W (go v)))
    first_only def (inl s) = absurd (n (rw (← s) def))
    first_only def (inr t) = t

    first_only' : IsDefinite (W' q) → In k (asked W' (asks q go)) → In k (on_value (W' q) (λ v. asked W' (go v)))
    first_only' def (inl s) = absurd (m (rw (← s) def))
    first_only' def (inr t) = t

    at_open : (r : Result Value Halt) → W' q ≡ r → (q ≡ j) → (q ≡ k) ⊎ In k (on_value r (λ v. asked W' (go v))) → j ≡ k
    at_open r e s (inl s') = sym s ∙ s'
    at_open (Ok v) e s (inr t) = absurd (n' (rw (← s, e) tt))
    at_open (Err f) e s (inr t) = absurd t

    by_answer : ((v : Value) → In j (asked W (go v)) → In k (asked W' (go v)) → j ≡ k)
        → (r : Result Value Halt) → W q ≡ r → In j (asked W (asks q go)) → In k (asked W' (asks q go)) → j ≡ k
    by_answer ih (Ok v) e a b =
        let def : IsDefinite (W q) = rw e tt in
        let same : W' q ≡ Ok v = better q def ∙ e in
        let a' : In j (asked W (go v)) = rw e at (first_only def a) in
        let b' : In k (asked W' (go v)) = rw same at (first_only' (rw same tt) b) in
        ih v a' b'
    by_answer ih (Err f) e (inl s) b = at_open (W' q) refl s b
    by_answer ih (Err f) e (inr t) b = absurd (rw e at t)

-- Where the fuel ran out, it did so at a key asked for.
pub out_at : (W : Oracle) (d : Inquiry) (c : List Key) → outcome W d ≡ Err (out c) → (k : Key) × In k (asked W d) × (W k ≡ Err (out c))
out_at W (gives v) c h = cc
out_at W (fails f) c h = cc
out_at W (asks q go) c h = by_answer (λ v. out_at W (go v) c) (W q) refl h
  where
    by_answer : ((v : Value) → outcome W (go v) ≡ Err (out c) → (k : Key) × In k (asked W (go v)) × (W k ≡ Err (out c)))
        → (r : Result Value Halt) → W q ≡ r → and_then r (λ v. outcome W (go v)) ≡ Err (out c) → (k : Key) × ((q ≡ k) ⊎ In k (on_value r (λ v. asked W (go v)))) × (W k ≡ Err (out c))
    by_answer ih (Ok v) e h' = let found = ih v h' in (found.0, inr found.1, found.2)
    by_answer ih (Err f) e h' = (q, inl refl, e ∙ h')
