-- Which keys were asked for.
use Rattle.std.specs.Prelude.{◌≡◌, ◌⊎◌, List, [], ◌∷◌, Result, Ok, Err}
use Rattle.fisca_model.specs.declared.key.Key.{Key}
use Rattle.fisca_writer.specs.declared.fault.RowFault.{RowFault}
use Rattle.fisca_writer.specs.declared.fault.RowFault.TheVariants as fault

-- one way where the value of a key was worked out, or that it has none, another where memory was refused meanwhile
abbrev pub IsStep : {F X : Type 0} → Type 0 → Type 0 → Result X (RowFault F) → Type 0
IsStep worked refused (Ok x) = worked
IsStep worked refused (Err (fault.Eval f)) = worked
IsStep worked refused (Err fault.Memory) = refused

-- from `old` to `new` by asking for these keys, in order, each once
abbrev pub Asks : {S : Type 0} → (S → Key → S → Type 0) → S → List Key → S → Type 0
Asks worked old [] new = new ≡ old
Asks {S} worked old (k ∷ ks) new = (between : S) × worked old k between × Asks worked between ks new

-- by asking for the first of these keys, in order, each once, and perhaps for one behind them, at which memory was refused
abbrev pub AsksSome : {S : Type 0} → (S → Key → S → Type 0) → (S → Key → S → Type 0) → S → List Key → S → Type 0
AsksSome worked refused old [] new = new ≡ old
AsksSome {S} worked refused old (k ∷ ks) new = (new ≡ old) ⊎ (refused old k new ⊎ ((between : S) × worked old k between × AsksSome worked refused between ks new))

-- all of these keys were asked for, or only the first of them where memory was refused
abbrev pub HaveAsked : {S F X : Type 0} → (S → Key → S → Type 0) → (S → Key → S → Type 0) → List Key → S → S → Result X (RowFault F) → Type 0
HaveAsked worked refused keys old new (Ok x) = Asks worked old keys new
HaveAsked worked refused keys old new (Err (fault.Eval f)) = Asks worked old keys new
HaveAsked worked refused keys old new (Err fault.Memory) = AsksSome worked refused old keys new
