-- What the lines of an explanation list.
use Rattle.std.specs.Prelude.{◌≡◌, ◌⊎◌, ◌==◌, ℕ, List, [], ◌∷◌, length, if◌then◌else◌}
use Rattle.fisca_model.specs.Values.{Key}
use Rattle.fisca_explanation.specs.Explanations.{Line, Reason, unfit, at_hand, beyond, worked, above}

-- a line is among these
abbrev pub Among : Line → List Line → Type 0
Among line [] = ⊥
Among line (l ∷ ls) = (l ≡ line) ⊎ Among line ls

abbrev pub with_key : Reason → Key → List Key → List Key
with_key worked key keys = key ∷ keys
with_key unfit key keys = keys
with_key at_hand key keys = keys
with_key beyond key keys = keys
with_key above key keys = keys

-- the keys whose formulas are followed below them
abbrev pub worked_keys : List Line → List Key
worked_keys [] = []
worked_keys (l ∷ ls) = with_key l.reason l.key (worked_keys ls)

-- the keys below so many others
abbrev pub keys_at : ℕ → List Line → List Key
keys_at depth [] = []
keys_at depth (l ∷ ls) = if length l.path == depth then l.key ∷ keys_at depth ls else keys_at depth ls
