-- What stands directly below a key.
use Rattle.std.proofs.Common.{◌≡◌, inl, inr, ℕ, zero, suc, ◌<◌, ◌≤◌, ◌==◌, Bool, true, false, List, [], ◌∷◌, ◌++◌, length, length-append, refl, ap, ◌∙◌, subst, if◌then◌else◌, arith, ⊎_elim}
use Rattle.std.proofs.lemmas.Bool.Decides.{nat_tests}
use Rattle.fisca_model.specs.Values.{Key}
use Rattle.fisca_key_semantics.specs.Answers.{Source, Sources, refused, known, formula, value_within}
use Rattle.fisca_key_semantics.specs.Chains.{asked}
use Rattle.fisca_key_semantics.specs.Inquiry.{Inquiry}
use Rattle.fisca_key_semantics.specs.Keys.{has}
use Rattle.fisca_explanation.specs.Explanations.{Line, Reason, Told, alone, above, at_hand, beyond, explanation_within, in_turn, line_at, over, told_at_once, told_from, unfit, worked}
use Rattle.fisca_explanation.specs.Listed.{Among, keys_at}
use Rattle.fisca_explanation.proofs.Lines.{IsBelow, IsOwn, among_turn, own_suc, own_zero, within_suc, within_zero}

at_append : (depth : ℕ) (xs ys : List Line) → keys_at depth (xs ++ ys) ≡ keys_at depth xs ++ keys_at depth ys
at_append depth [] ys = refl
at_append depth (x ∷ xs) ys = by (at_append depth xs ys) (length x.path == depth)
  where
    by : keys_at depth (xs ++ ys) ≡ keys_at depth xs ++ keys_at depth ys → (b : Bool)
        → (if b then x.key ∷ keys_at depth (xs ++ ys) else keys_at depth (xs ++ ys)) ≡ (if b then x.key ∷ keys_at depth xs else keys_at depth xs) ++ keys_at depth ys
    by rest true = ap (λ ks. x.key ∷ ks) rest
    by rest false = rest

-- deeper lines are not there
none_at : (depth : ℕ) (ls : List Line) → ((line : Line) → Among line ls → depth < length line.path) → keys_at depth ls ≡ []
none_at depth [] deep = refl
none_at depth (l ∷ ls) deep =
    let low : depth < length l.path = deep l (inl refl) in
    let no : (length l.path == depth) ≡ false = grind (arith, nat_tests, low) in
    ap (λ b. if b then l.key ∷ keys_at depth ls else keys_at depth ls) no ∙ none_at depth ls (λ line i. deep line (inr i))

turn_at : (tell : List Key → Key → Told) (depth : ℕ) → ((e : List Key) (k : Key) → keys_at depth (tell e k).lines ≡ k ∷ []) → (before ks : List Key) → keys_at depth (in_turn tell before ks).lines ≡ ks
turn_at tell depth each before [] = refl
turn_at tell depth each before (k ∷ ks) =
    let first = tell before k in
    let rest = in_turn tell first.followed ks in
    at_append depth first.lines rest.lines ∙ (ap (λ l. l ++ keys_at depth rest.lines) (each before k) ∙ ap (λ l. k ∷ l) (turn_at tell depth each first.followed ks))

module _ (src : Sources) where
  own_deep : (path : List Key) (key : Key) (line : Line) → IsOwn src path key line → length path ≤ length line.path
  own_deep path key line own = let same : line.path ≡ path = ap (λ (l : Line). l.path) own.1 in rw same (omega arith)

  pub deep : (n : ℕ) (path before : List Key) (key : Key) (line : Line) → Among line (explanation_within src n path before key).lines → length path ≤ length line.path
  deep zero path before key line i = own_deep path key line (own_zero src path before key line i)
  deep (suc n) path before key line i = ⊎_elim
      (λ (own : IsOwn src path key line). own_deep path key line own)
      (λ (below : IsBelow src n path key line).
      let there = deep n (path ++ key ∷ []) below.before below.next line below.there in
      omega (arith, length-append path (key ∷ []), there))
      (own_suc src n path before key line i)

  one_alone : (path before : List Key) (key : Key) (reason : Reason) → keys_at (length path) (alone (line_at src path key reason) before).lines ≡ key ∷ []
  one_alone path before key reason =
      let yes : (length path == length path) ≡ true = grind (arith, nat_tests) in
      ap (λ b. if b then key ∷ [] else []) yes

  once_at : (path before : List Key) (key : Key) (s : Source) → keys_at (length path) (told_at_once src path before key s).lines ≡ key ∷ []
  once_at path before key refused = one_alone path before key unfit
  once_at path before key (known v) = one_alone path before key beyond
  once_at path before key (formula d) = one_alone path before key (if has before key then above else beyond)

  from_at : (n : ℕ) (path before : List Key) (key : Key) (s : Source) → keys_at (length path) (told_from src (value_within src n) (explanation_within src n (path ++ key ∷ [])) path before key s).lines ≡ key ∷ []
  from_at n path before key refused = one_alone path before key unfit
  from_at n path before key (known v) = one_alone path before key at_hand
  from_at n path before key (formula d) = by (has before key)
    where
      tell : List Key → Key → Told
      tell = explanation_within src n (path ++ key ∷ [])

      below : List Line
      below = (in_turn tell (before ++ key ∷ []) (asked (value_within src n) d)).lines

      deeper : (line : Line) → Among line below → length path < length line.path
      deeper line i =
          let found = among_turn tell (before ++ key ∷ []) (asked (value_within src n) d) line i in
          let there = deep n (path ++ key ∷ []) found.2.0 found.0 line found.2.1 in
          omega (arith, length-append path (key ∷ []), there)

      by : (b : Bool) → keys_at (length path) (if b then alone (line_at src path key above) before else over (line_at src path key worked) (in_turn tell (before ++ key ∷ []) (asked (value_within src n) d))).lines ≡ key ∷ []
      by true = one_alone path before key above
      by false =
          let yes : (length path == length path) ≡ true = grind (arith, nat_tests) in
          ap (λ b. if b then key ∷ keys_at (length path) below else keys_at (length path) below) yes ∙ ap (λ l. key ∷ l) (none_at (length path) below deeper)

  pub one_at : (n : ℕ) (path before : List Key) (key : Key) → keys_at (length path) (explanation_within src n path before key).lines ≡ key ∷ []
  one_at zero path before key = ap (λ (t : Told). keys_at (length path) t.lines) (within_zero src path before key) ∙ once_at path before key (src key)
  one_at (suc n) path before key = ap (λ (t : Told). keys_at (length path) t.lines) (within_suc src n path before key) ∙ from_at n path before key (src key)

  -- what a key asks for that was not followed before
  pub asked_below : (n : ℕ) (path before : List Key) (key : Key) (d : Inquiry) → src key ≡ formula d → has before key ≡ false
      → keys_at (suc (length path)) (explanation_within src (suc n) path before key).lines ≡ asked (value_within src n) d
  asked_below n path before key d e fresh =
      let tell = explanation_within src n (path ++ key ∷ []) in
      let ks = asked (value_within src n) d in
      let below = in_turn tell (before ++ key ∷ []) ks in
      let line = line_at src path key worked in
      let depth = suc (length path) in
      let no : (length path == depth) ≡ false = grind (arith, nat_tests) in
      let long : length (path ++ key ∷ []) ≡ depth = omega (arith, length-append path (key ∷ [])) in
      ap (λ (t : Told). keys_at depth t.lines) (within_suc src n path before key)
      ∙ (ap (λ s. keys_at depth (told_from src (value_within src n) tell path before key s).lines) e
      ∙ (ap (λ b. keys_at depth (if b then alone (line_at src path key above) before else over line below).lines) fresh
      ∙ (ap (λ b. if b then key ∷ keys_at depth below.lines else keys_at depth below.lines) no
      ∙ turn_at tell depth (λ e' k. subst (λ m. keys_at m (tell e' k).lines ≡ k ∷ []) long (one_at n (path ++ key ∷ []) e' k)) (before ++ key ∷ []) ks)))
