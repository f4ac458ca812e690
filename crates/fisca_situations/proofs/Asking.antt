-- Keys that are asked for one after the other.
use Rattle.std.proofs.Common.{◌≡◌, ◌⊎◌, List, [], ◌∷◌, ◌++◌, Result, Ok, Err, append_assoc, refl, subst, sym, ◌∙◌, inl, inr, ⊎_elim}
use Rattle.std.specs.Prelude.{⊤}
use Rattle.fisca_situations.specs.Asked.{Asks, AsksSome, HaveAsked, IsStep}
use Rattle.fisca_model.specs.declared.key.Key.{Key}
use Rattle.fisca_writer.specs.declared.fault.RowFault.{RowFault}
use Rattle.fisca_writer.specs.declared.fault.RowFault.TheVariants as fault

-- what remembers nothing may go from any state to any other
pub steps_freely : {F X : Type 0} (result : Result X (RowFault F)) → IsStep ⊤ ⊤ result
steps_freely (Ok x) = tt
steps_freely (Err (fault.Eval f)) = tt
steps_freely (Err fault.Memory) = tt

module _ {S : Type 0} (worked : S → Key → S → Type 0) where
  -- all of these keys, and then those behind them
  pub asks_on : (old between new : S) (keys more : List Key) → Asks worked old keys between → Asks worked between more new → Asks worked old (keys ++ more) new
  asks_on old between new [] more asked rest = subst (λ s. Asks worked s more new) asked rest
  asks_on old between new (k ∷ ks) more asked rest = (asked.0, asked.1, asks_on asked.0 between new ks more asked.2 rest)

  -- Of some keys the first were asked for, and these are left.
  abbrev pub AreLeft : List Key → List Key → S → S → Type 0
  AreLeft keys left old new = (done : List Key) × (keys ≡ done ++ left) × Asks worked old done new

  -- one more was asked for
  pub left_more : (old between new : S) (keys left : List Key) (k : Key) → AreLeft keys (k ∷ left) old between → worked between k new → AreLeft keys left old new
  left_more old between new keys left k here step =
      (here.0 ++ k ∷ [], here.1 ∙ sym (append_assoc here.0 (k ∷ []) left), asks_on old between new here.0 (k ∷ []) here.2 (new, step, refl))

  -- all that were left
  pub asks_left : (old between new : S) (keys left : List Key) → AreLeft keys left old between → Asks worked between left new → Asks worked old keys new
  asks_left old between new keys left here rest = subst (λ all. Asks worked old all new) (sym here.1) (asks_on old between new here.0 left here.2 rest)

module _ {S : Type 0} (worked refused : S → Key → S → Type 0) where
  -- none of the keys
  pub some_none : (old : S) (keys : List Key) → AsksSome worked refused old keys old
  some_none old [] = refl
  some_none old (k ∷ ks) = inl refl

  -- all of them
  pub some_all : (old new : S) (keys : List Key) → Asks worked old keys new → AsksSome worked refused old keys new
  some_all old new [] asked = asked
  some_all old new (k ∷ ks) asked = inr (inr (asked.0, asked.1, some_all asked.0 new ks asked.2))

  -- all of them, and some behind them
  pub some_on : (old between new : S) (keys more : List Key) → Asks worked old keys between → AsksSome worked refused between more new → AsksSome worked refused old (keys ++ more) new
  some_on old between new [] more asked rest = subst (λ s. AsksSome worked refused s more new) asked rest
  some_on old between new (k ∷ ks) more asked rest = inr (inr (asked.0, asked.1, some_on asked.0 between new ks more asked.2 rest))

  -- some of them, and none behind them
  pub some_first : (old new : S) (keys more : List Key) → AsksSome worked refused old keys new → AsksSome worked refused old (keys ++ more) new
  some_first old new [] more asked = subst (λ s. AsksSome worked refused old more s) (sym asked) (some_none old more)
  some_first old new (k ∷ ks) more asked = ⊎_elim
      (λ (none : new ≡ old). inl none)
      (λ (some : refused old k new ⊎ ((between : S) × worked old k between × AsksSome worked refused between ks new)). ⊎_elim
      (λ (at : refused old k new). inr (inl at))
      (λ (later : (between : S) × worked old k between × AsksSome worked refused between ks new). inr (inr (later.0, later.1, some_first later.0 new ks more later.2)))
      some)
      asked

  -- some of those that were left
  pub some_left : (old between new : S) (keys left : List Key) → AreLeft worked keys left old between → AsksSome worked refused between left new → AsksSome worked refused old keys new
  some_left old between new keys left here rest = subst (λ all. AsksSome worked refused old all new) (sym here.1) (some_on old between new here.0 left here.2 rest)

  module _ {F X : Type 0} where
    -- keys of which all were asked for, and then those behind them
    pub asked_on : (old between new : S) (keys more : List Key) (result : Result X (RowFault F)) → Asks worked old keys between → HaveAsked worked refused more between new result
        → HaveAsked worked refused (keys ++ more) old new result
    asked_on old between new keys more (Ok x) asked rest = asks_on worked old between new keys more asked rest
    asked_on old between new keys more (Err (fault.Eval f)) asked rest = asks_on worked old between new keys more asked rest
    asked_on old between new keys more (Err fault.Memory) asked rest = some_on old between new keys more asked rest
