-- The lines of an explanation: that of the key, or those of the keys that it asks for.
use Rattle.std.proofs.Common.{◌≡◌, ◌⊎◌, inl, inr, ℕ, zero, suc, Bool, true, false, List, [], ◌∷◌, ◌++◌, refl, sym, subst, if◌then◌else◌, append_assoc, ⊎_elim}
use Rattle.fisca_model.specs.Values.{Key}
use Rattle.fisca_key_semantics.specs.Answers.{Source, Sources, refused, known, formula, value_within}
use Rattle.fisca_key_semantics.specs.Chains.{IsPath, asked}
use Rattle.fisca_key_semantics.specs.Inquiry.{Inquiry}
use Rattle.fisca_key_semantics.specs.Keys.{In, has}
use Rattle.fisca_key_semantics.specs.Stacks.{answer_below}
use Rattle.fisca_key_semantics.proofs.Paths.{path_append}
use Rattle.fisca_explanation.specs.Explanations.{Line, Reason, Told, alone, above, at_hand, beyond, explanation_within, in_turn, line_at, over, told_at_once, told_from, unfit, worked}
use Rattle.fisca_explanation.specs.Listed.{Among}

pub among_append : (line : Line) (xs ys : List Line) → Among line (xs ++ ys) → Among line xs ⊎ Among line ys
among_append line [] ys i = inr i
among_append line (x ∷ xs) ys (inl e) = inl (inl e)
among_append line (x ∷ xs) ys (inr t) = ⊎_elim (λ (a : Among line xs). inl (inr a)) (λ (b : Among line ys). inr b) (among_append line xs ys t)

-- a line of keys in turn is one of a key
pub among_turn : (tell : List Key → Key → Told) (before : List Key) (ks : List Key) (line : Line) → Among line (in_turn tell before ks).lines
    → (k : Key) × In k ks × ((e : List Key) × Among line (tell e k).lines)
among_turn tell before [] line i = absurd i
among_turn tell before (k ∷ ks) line i = ⊎_elim
    (λ (a : Among line (tell before k).lines). (k, inl refl, (before, a)))
    (λ (b : Among line (in_turn tell (tell before k).followed ks).lines).
    let found = among_turn tell (tell before k).followed ks line b in
    (found.0, inr found.1, found.2))
    (among_append line (tell before k).lines (in_turn tell (tell before k).followed ks).lines i)

module _ (src : Sources) where
  pub within_zero : (path before : List Key) (key : Key) → explanation_within src zero path before key ≡ told_at_once src path before key (src key)
  unfolding explanation_within
  within_zero path before key = refl

  pub within_suc : (n : ℕ) (path before : List Key) (key : Key)
      → explanation_within src (suc n) path before key ≡ told_from src (value_within src n) (explanation_within src n (path ++ key ∷ [])) path before key (src key)
  unfolding explanation_within
  within_suc n path before key = refl

  -- the key's own line
  abbrev pub IsOwn : List Key → Key → Line → Type 0
  IsOwn path key line = (reason : Reason) × (line ≡ line_at src path key reason)

  own_alone : (path before : List Key) (key : Key) (reason : Reason) (line : Line) → Among line (alone (line_at src path key reason) before).lines → IsOwn path key line
  own_alone path before key reason line (inl e) = (reason, sym e)
  own_alone path before key reason line (inr t) = absurd t

  own_at_once : (path before : List Key) (key : Key) (line : Line) (s : Source) → Among line (told_at_once src path before key s).lines → IsOwn path key line
  own_at_once path before key line refused i = own_alone path before key unfit line i
  own_at_once path before key line (known v) i = own_alone path before key beyond line i
  own_at_once path before key line (formula d) i = own_alone path before key (if has before key then above else beyond) line i

  pub own_zero : (path before : List Key) (key : Key) (line : Line) → Among line (explanation_within src zero path before key).lines → IsOwn path key line
  own_zero path before key line i = own_at_once path before key line (src key) (subst (λ t. Among line t.lines) (within_zero path before key) i)

  -- a line of a key that the formula asks for
  pub record IsBelow (n : ℕ) (path : List Key) (key : Key) (line : Line) : Type 0 where
    pub inquiry : Inquiry
    pub is_formula : src key ≡ formula inquiry
    pub next : Key
    pub asks : In next (asked (value_within src n) inquiry)
    pub before : List Key
    pub there : Among line (explanation_within src n (path ++ key ∷ []) before next).lines

  own_or_below : (n : ℕ) (path before : List Key) (key : Key) (line : Line) (s : Source) → src key ≡ s
      → Among line (told_from src (value_within src n) (explanation_within src n (path ++ key ∷ [])) path before key s).lines → IsOwn path key line ⊎ IsBelow n path key line
  own_or_below n path before key line refused e i = inl (own_alone path before key unfit line i)
  own_or_below n path before key line (known v) e i = inl (own_alone path before key at_hand line i)
  own_or_below n path before key line (formula d) e i = by (has before key) i
    where
      tell : List Key → Key → Told
      tell = explanation_within src n (path ++ key ∷ [])

      by : (b : Bool) → Among line (if b then alone (line_at src path key above) before else over (line_at src path key worked) (in_turn tell (before ++ key ∷ []) (asked (value_within src n) d))).lines
          → IsOwn path key line ⊎ IsBelow n path key line
      by true i' = inl (own_alone path before key above line i')
      by false (inl same) = inl (worked, sym same)
      by false (inr t) =
          let found = among_turn tell (before ++ key ∷ []) (asked (value_within src n) d) line t in
          inr (record { inquiry = d; is_formula = e; next = found.0; asks = found.1; before = found.2.0; there = found.2.1 })

  pub own_suc : (n : ℕ) (path before : List Key) (key : Key) (line : Line) → Among line (explanation_within src (suc n) path before key).lines → IsOwn path key line ⊎ IsBelow n path key line
  own_suc n path before key line i = own_or_below n path before key line (src key) refl (subst (λ t. Among line t.lines) (within_suc n path before key) i)

  -- each line has the answer of its key there
  own_answer : (path : List Key) (key : Key) (line : Line) → IsOwn path key line → line.answer ≡ answer_below src line.path line.key
  own_answer path key line own = subst (λ (l : Line). l.answer ≡ answer_below src l.path l.key) (sym own.1) refl

  pub answered : (n : ℕ) (path before : List Key) (key : Key) (line : Line) → Among line (explanation_within src n path before key).lines → line.answer ≡ answer_below src line.path line.key
  answered zero path before key line i = own_answer path key line (own_zero path before key line i)
  answered (suc n) path before key line i = ⊎_elim
      (λ (own : IsOwn path key line). own_answer path key line own)
      (λ (below : IsBelow n path key line). answered n (path ++ key ∷ []) below.before below.next line below.there)
      (own_suc n path before key line i)

  -- one more key of a path
  pub path_push : (n : ℕ) (path : List Key) (key next : Key) (d : Inquiry) → src key ≡ formula d → In next (asked (value_within src n) d) → IsPath src (path ++ key ∷ []) → IsPath src ((path ++ key ∷ []) ++ next ∷ [])
  path_push n path key next d e asks p =
      subst (IsPath src) (sym (append_assoc path (key ∷ []) (next ∷ [])))
      (path_append src path key (next ∷ []) p (record { fuel = n; inquiry = d; is_formula = e; asks = asks }, tt))

  -- each key of a line's path asks for the next
  own_path : (path : List Key) (key : Key) (line : Line) → IsPath src (path ++ key ∷ []) → IsOwn path key line → IsPath src (line.path ++ line.key ∷ [])
  own_path path key line p own = subst (λ (l : Line). IsPath src (l.path ++ l.key ∷ [])) (sym own.1) p

  pub is_path : (n : ℕ) (path before : List Key) (key : Key) (line : Line) → IsPath src (path ++ key ∷ []) → Among line (explanation_within src n path before key).lines → IsPath src (line.path ++ line.key ∷ [])
  is_path zero path before key line p i = own_path path key line p (own_zero path before key line i)
  is_path (suc n) path before key line p i = ⊎_elim
      (λ (own : IsOwn path key line). own_path path key line p own)
      (λ (below : IsBelow n path key line).
      is_path n (path ++ key ∷ []) below.before below.next line (path_push n path key below.next below.inquiry below.is_formula below.asks p) below.there)
      (own_suc n path before key line i)
