-- What rows ask for, key by key.
use Rattle.std.proofs.Common.{◌≡◌, ◌<◌, ◌+◌, ℕ, List, [], ◌∷◌, ◌++◌, Bool, true, false, Result, Ok, Err, drop, get_or, length, ap, refl, subst, sym, ◌∙◌, inl, inr}
use Rattle.std.proofs.lemmas.List.{drop_more}
use Rattle.std.specs.Prelude.{if◌then◌else◌}
use Rattle.fisca_situations.proofs.Asking.{AreLeft, asked_on, asks_left, asks_on, left_more, some_first, some_left, some_none}
use Rattle.fisca_situations.specs.Asked.{Asks, AsksSome, HaveAsked, IsStep}
use Rattle.fisca_situations.specs.Answered.{IsAnswer}
use Rattle.fisca_model.specs.declared.value.Value.{Value}
use Rattle.fisca_model.specs.declared.key.Key.{Key}
use Rattle.fisca_writer.specs.declared.fault.RowFault.{RowFault}
use Rattle.fisca_writer.specs.declared.fault.RowFault.TheVariants as fault
use Rattle.fisca_rows.specs.Asked.{behind, keys_asked, keys_if_met, keys_met, keys_written}
use Rattle.fisca_rows.specs.Met.{all_met, meets}
use Rattle.fisca_rows.specs.Outcomes.{IsOutcome}
use Rattle.fisca_rows.specs.declared.condition.Condition.{Condition}

-- the item at a place is the first of what is left
first_left : {X : Type 0} (xs : List X) (i : ℕ) (x : X) → x ≡ get_or xs i x → i < length xs → drop i xs ≡ x ∷ drop (i + 1) xs
first_left xs i x at inside = drop_more xs i x inside ∙ ap (λ y. y ∷ drop (i + 1) xs) (sym at)

-- a fault that is handed on, whatever is answered beside it
pub handed_on : {S F X : Type 0} (worked refused : S → Key → S → Type 0) (keys : List Key) (old new : S) (result : Result X (RowFault F)) (y e : RowFault F) → result ≡ Err y → y ≡ e
    → HaveAsked {X = Unit {0}} worked refused keys old new (Err e)
    → HaveAsked worked refused keys old new result
handed_on {S} {F} {X} worked refused keys old new result y e is same asked =
    subst (λ r. HaveAsked worked refused keys old new r) (sym (is ∙ ap (λ f. Err f) same)) (by e asked)
  where
    by : (f : RowFault F) → HaveAsked {X = Unit {0}} worked refused keys old new (Err f) → HaveAsked {X = X} worked refused keys old new (Err f)
    by (fault.Eval f) h = h
    by fault.Memory h = h

module _ {S F : Type 0} (worked refused : S → Key → S → Type 0) (answer : Key → Result Value F) where
  told : (now : Key → Result Value F) (k : Key) (r : Result Value F) → now ≡ answer → now k ≡ r → answer k ≡ r
  told now k r same is = sym (ap (λ a. a k) same) ∙ is

  -- Conditions

  -- what is asked for behind the key of a condition
  abbrev behind_met : Condition → List Condition → Value → List Key
  behind_met x xs w = if meets x w then keys_met answer xs else []

  met_first : (xs : List Condition) (i : ℕ) (x : Condition) → x ≡ get_or xs i x → i < length xs → keys_met answer (drop i xs) ≡ x.key ∷ behind (answer x.key) (behind_met x (drop (i + 1) xs))
  met_first xs i x at inside = ap (keys_met answer) (first_left xs i x at inside)

  met_by : (xs : List Condition) (i : ℕ) (x : Condition) (w : Value) (b : Bool) → x ≡ get_or xs i x → i < length xs → answer x.key ≡ Ok w → meets x w ≡ b
      → keys_met answer (drop i xs) ≡ x.key ∷ (if b then keys_met answer (drop (i + 1) xs) else [])
  met_by xs i x w b at inside is holds =
      met_first xs i x at inside
      ∙ (ap (λ r. x.key ∷ behind r (behind_met x (drop (i + 1) xs))) is ∙ ap (λ h. x.key ∷ (if h then keys_met answer (drop (i + 1) xs) else [])) holds)

  -- one that holds
  pub met_more : (xs : List Condition) (i : ℕ) (x : Condition) (w : Value) (now : Key → Result Value F) (old between new : S) → x ≡ get_or xs i x → i < length xs → now ≡ answer → now x.key ≡ Ok w → meets x w ≡ true
      → worked between x.key new
      → AreLeft worked (keys_met answer xs) (keys_met answer (drop i xs)) old between
      → AreLeft worked (keys_met answer xs) (keys_met answer (drop (i + 1) xs)) old new
  met_more xs i x w now old between new at inside same is holds step here =
      left_more worked old between new (keys_met answer xs) (keys_met answer (drop (i + 1) xs)) x.key
      (subst (λ left. AreLeft worked (keys_met answer xs) left old between) (met_by xs i x w true at inside (told now x.key (Ok w) same is) holds) here) step

  -- one that does not
  pub met_end : (xs : List Condition) (i : ℕ) (x : Condition) (w : Value) (now : Key → Result Value F) (old between new : S) → x ≡ get_or xs i x → i < length xs → now ≡ answer → now x.key ≡ Ok w → meets x w ≡ false
      → worked between x.key new
      → AreLeft worked (keys_met answer xs) (keys_met answer (drop i xs)) old between
      → Asks worked old (keys_met answer xs) new
  met_end xs i x w now old between new at inside same is holds step here =
      asks_left worked old between new (keys_met answer xs) (x.key ∷ [])
      (subst (λ left. AreLeft worked (keys_met answer xs) left old between) (met_by xs i x w false at inside (told now x.key (Ok w) same is) holds) here) (new, step, refl)

  -- one whose key has no value
  pub met_fault : (xs : List Condition) (i : ℕ) (x : Condition) (e : RowFault F) (now : Key → Result Value F) (old between new : S) → x ≡ get_or xs i x → i < length xs → now ≡ answer
      → IsAnswer (now x.key) (Err e)
      → IsStep {X = Value} (worked between x.key new) (refused between x.key new) (Err e)
      → AreLeft worked (keys_met answer xs) (keys_met answer (drop i xs)) old between
      → HaveAsked {X = Bool} worked refused (keys_met answer xs) old new (Err e)
  met_fault xs i x (fault.Eval f) now old between new at inside same is step here =
      let keys : keys_met answer (drop i xs) ≡ x.key ∷ [] = met_first xs i x at inside ∙ ap (λ r. x.key ∷ behind r (behind_met x (drop (i + 1) xs))) (told now x.key (Err f) same is) in
      asks_left worked old between new (keys_met answer xs) (x.key ∷ []) (subst (λ left. AreLeft worked (keys_met answer xs) left old between) keys here) (new, step, refl)
  met_fault xs i x fault.Memory now old between new at inside same is step here =
      some_left worked refused old between new (keys_met answer xs) (x.key ∷ behind (answer x.key) (behind_met x (drop (i + 1) xs)))
      (subst (λ left. AreLeft worked (keys_met answer xs) left old between) (met_first xs i x at inside) here) (inr (inl step))

  -- Columns

  written_first : (ks : List Key) (i : ℕ) (k : Key) → k ≡ get_or ks i k → i < length ks → keys_written answer (drop i ks) ≡ k ∷ behind (answer k) (λ w. keys_written answer (drop (i + 1) ks))
  written_first ks i k at inside = ap (keys_written answer) (first_left ks i k at inside)

  -- one that has a value
  pub written_more : (ks : List Key) (i : ℕ) (k : Key) (w : Value) (now : Key → Result Value F) (old between new : S) → k ≡ get_or ks i k → i < length ks → now ≡ answer → now k ≡ Ok w
      → worked between k new
      → AreLeft worked (keys_written answer ks) (keys_written answer (drop i ks)) old between
      → AreLeft worked (keys_written answer ks) (keys_written answer (drop (i + 1) ks)) old new
  written_more ks i k w now old between new at inside same is step here =
      let keys : keys_written answer (drop i ks) ≡ k ∷ keys_written answer (drop (i + 1) ks) =
      written_first ks i k at inside ∙ ap (λ r. k ∷ behind r (λ v. keys_written answer (drop (i + 1) ks))) (told now k (Ok w) same is) in
      left_more worked old between new (keys_written answer ks) (keys_written answer (drop (i + 1) ks)) k
      (subst (λ left. AreLeft worked (keys_written answer ks) left old between) keys here) step

  -- one that has none
  pub written_fault : (ks : List Key) (i : ℕ) (k : Key) (e : RowFault F) (now : Key → Result Value F) (old between new : S) → k ≡ get_or ks i k → i < length ks → now ≡ answer
      → IsAnswer (now k) (Err e)
      → IsStep {X = Value} (worked between k new) (refused between k new) (Err e)
      → AreLeft worked (keys_written answer ks) (keys_written answer (drop i ks)) old between
      → HaveAsked {X = Unit {0}} worked refused (keys_written answer ks) old new (Err e)
  written_fault ks i k (fault.Eval f) now old between new at inside same is step here =
      let keys : keys_written answer (drop i ks) ≡ k ∷ [] =
      written_first ks i k at inside ∙ ap (λ r. k ∷ behind r (λ v. keys_written answer (drop (i + 1) ks))) (told now k (Err f) same is) in
      asks_left worked old between new (keys_written answer ks) (k ∷ []) (subst (λ left. AreLeft worked (keys_written answer ks) left old between) keys here) (new, step, refl)
  written_fault ks i k fault.Memory now old between new at inside same is step here =
      some_left worked refused old between new (keys_written answer ks) (k ∷ behind (answer k) (λ w. keys_written answer (drop (i + 1) ks)))
      (subst (λ left. AreLeft worked (keys_written answer ks) left old between) (written_first ks i k at inside) here) (inr (inl step))

  -- one that has a value whose text found no memory
  pub written_part : (ks : List Key) (i : ℕ) (k : Key) (old between new : S) → k ≡ get_or ks i k → i < length ks → worked between k new
      → AreLeft worked (keys_written answer ks) (keys_written answer (drop i ks)) old between
      → AsksSome worked refused old (keys_written answer ks) new
  written_part ks i k old between new at inside step here =
      let rest = behind (answer k) (λ w. keys_written answer (drop (i + 1) ks)) in
      some_left worked refused old between new (keys_written answer ks) (k ∷ rest)
      (subst (λ left. AreLeft worked (keys_written answer ks) left old between) (written_first ks i k at inside) here)
      (inr (inr (new, step, some_none worked refused new rest)))

  -- Rows

  -- where the conditions end it
  asked_met : (conditions : List Condition) (columns : List Key) (met : Result Bool F) (old new : S) → all_met answer conditions ≡ met → keys_if_met met (keys_written answer columns) ≡ []
      → Asks worked old (keys_met answer conditions) new
      → Asks worked old (keys_asked answer conditions columns) new
  asked_met conditions columns met old new is none asked =
      let left : keys_if_met (all_met answer conditions) (keys_written answer columns) ≡ [] = ap (λ r. keys_if_met r (keys_written answer columns)) is ∙ none in
      subst (λ more. Asks worked old (keys_met answer conditions ++ more) new) (sym left) (asks_on worked old new new (keys_met answer conditions) [] asked refl)

  -- by a fault
  pub row_fault : (conditions : List Condition) (columns : List Key) (e : RowFault F) (old new : S) → IsOutcome {X = Bool} (all_met answer conditions) (Err e)
      → HaveAsked {X = Bool} worked refused (keys_met answer conditions) old new (Err e)
      → HaveAsked {X = Unit {0}} worked refused (keys_asked answer conditions columns) old new (Err e)
  row_fault conditions columns (fault.Eval f) old new is asked = asked_met conditions columns (Err f) old new is refl asked
  row_fault conditions columns fault.Memory old new is asked =
      some_first worked refused old new (keys_met answer conditions) (keys_if_met (all_met answer conditions) (keys_written answer columns)) asked

  -- where all conditions hold
  pub row_written : {X : Type 0} (conditions : List Condition) (columns : List Key) (result : Result X (RowFault F)) (now : Key → Result Value F) (old between new : S)
      → all_met answer conditions ≡ Ok true
      → now ≡ answer
      → Asks worked old (keys_met answer conditions) between
      → HaveAsked worked refused (keys_written now columns) between new result
      → HaveAsked worked refused (keys_asked answer conditions columns) old new result
  row_written conditions columns result now old between new is same asked written =
      subst (λ r. HaveAsked worked refused (keys_met answer conditions ++ keys_if_met r (keys_written answer columns)) old new result) (sym is)
      (asked_on worked refused old between new (keys_met answer conditions) (keys_written answer columns) result asked
      (subst (λ a. HaveAsked worked refused (keys_written a columns) between new result) same written))
