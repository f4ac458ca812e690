-- Inputs while they are read, and the keys of them that a table has.
use Rattle.std.proofs.Common.{◌≡◌, ℕ, ◌<◌, ◌≤◌, ◌+◌, List, [], ◌∷◌, ◌++◌, length, Bool, true, false, refl, ap, ap₂, lt-ltb, sym, ◌∙◌, ◌||◌, ◌&&◌, arith, length-append}
use Rattle.std.specs.Prelude.{nat_lt, not, IfOk, OnOk, Result, Ok, Err}
use Rattle.std.specs.List.{list_any}
use Rattle.fisca_inputs.specs.Entries.{same_key}
use Rattle.fisca_inputs.specs.Inputs.{key_given}
use Rattle.fisca_model.specs.contracts.key.KeyEq.TheImpl.Laws.{laws-law}
use Rattle.fisca_inputs.specs.declared.given.Given.{Given}
use Rattle.fisca_model.specs.declared.key.Key.{Key}
use Rattle.fisca_situations.specs.GivenKeys.{HasKeys, is_key_of}

-- which of two keys comes first does not matter
pub turned : (gs : List Given) (k : Key) → is_key_of gs k ≡ list_any (λ g. same_key k (key_given g)) gs
turned [] k = refl
turned (g ∷ gs) k = ap₂ (λ a b. a || b) (laws-law.symm (key_given g) k) (turned gs k)

of_more : (gs : List Given) (g : Given) (k : Key) → is_key_of (gs ++ g ∷ []) k ≡ (same_key (key_given g) k || is_key_of gs k)
of_more [] g k = refl
of_more (h ∷ gs) g k = ap (λ b. same_key (key_given h) k || b) (of_more gs g k) ∙ by (same_key (key_given h) k) (same_key (key_given g) k)
  where
    by : (a b : Bool) → (a || (b || is_key_of gs k)) ≡ (b || (a || is_key_of gs k))
    by true true = refl
    by true false = refl
    by false b = refl

-- one key more is noted, and one input less is left
pub noted_next : (new old own left all : Bool) → new ≡ (own || old) → (old || (own || left)) ≡ all → (new || left) ≡ all
noted_next new true true left all e h = ap (λ b. b || left) e ∙ h
noted_next new true false left all e h = ap (λ b. b || left) e ∙ h
noted_next new false true left all e h = ap (λ b. b || left) e ∙ h
noted_next new false false left all e h = ap (λ b. b || left) e ∙ h

longer : (gs : List Given) (g : Given) → length (gs ++ g ∷ []) ≡ length gs + 1
longer gs g = length-append gs (g ∷ [])

less : (m n : ℕ) → m < n → nat_lt m n ≡ true
less m n h = lt-ltb m n h

module _ (has : Key → Bool) (gs : List Given) where
  many_more : (new : Key → Bool) (g : Given) → 8 ≤ length gs → ((k : Key) → has k ≡ is_key_of gs k)
      → ((k : Key) → new k ≡ (same_key (key_given g) k || has k)) → HasKeys new (gs ++ g ∷ [])
  many_more new g many all noted k =
      let many_yet : 8 < length (gs ++ g ∷ []) = omega (arith, many, longer gs g) in
      noted k ∙ ap (λ b. same_key (key_given g) k || b) (all k) ∙ sym (of_more gs g k)
      ∙ sym (ap (λ b. b && is_key_of (gs ++ g ∷ []) k) (less 8 (length (gs ++ g ∷ [])) many_yet))

module _ {E : Type 0} (r : Result Bool E) (has : Key → Bool) (gs : List Given) (k : Key) (all : (j : Key) → has j ≡ is_key_of gs j) where
  pub told_by : IfOk r (λ is_new. is_new ≡ not (has k)) → IfOk r (λ is_new. is_new ≡ not (list_any (λ g. same_key k (key_given g)) gs))
  told_by told = by r told
    where
      by : (o : Result Bool E) → IfOk o (λ is_new. is_new ≡ not (has k)) → IfOk o (λ is_new. is_new ≡ not (list_any (λ g. same_key k (key_given g)) gs))
      by (Ok is_new) t = t ∙ ap not (all k ∙ turned gs k)
      by (Err e) t = t

  pub noted_by : (new : Key → Bool) → 8 ≤ length gs → OnOk r ((j : Key) → new j ≡ (same_key k j || has j))
      → OnOk r ((g : Given) → key_given g ≡ k → HasKeys new (gs ++ g ∷ []))
  noted_by new many noted = by r noted
    where
      by : (o : Result Bool E) → OnOk o ((j : Key) → new j ≡ (same_key k j || has j)) → OnOk o ((g : Given) → key_given g ≡ k → HasKeys new (gs ++ g ∷ []))
      by (Ok is_new) t = λ g same. many_more has gs new g many all (λ j. t j ∙ ap (λ (i : Key). same_key i j || has j) (sym same))
      by (Err e) t = t
