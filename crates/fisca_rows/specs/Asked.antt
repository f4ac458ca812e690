-- Which keys a row asks for, by the answers of keys.
use Rattle.std.specs.Prelude.{List, [], ◌∷◌, ◌++◌, Bool, true, false, if◌then◌else◌, Result, Ok, Err}
use Rattle.fisca_model.specs.declared.value.Value.{Value}
use Rattle.fisca_model.specs.declared.key.Key.{Key}
use Rattle.fisca_rows.specs.Met.{all_met, meets}
use Rattle.fisca_rows.specs.declared.condition.Condition.{Condition}

-- what is asked for behind a key: nothing where it has no value
abbrev pub behind : {F : Type 0} → Result Value F → (Value → List Key) → List Key
behind (Ok w) next = next w
behind (Err f) next = []

-- the keys of conditions in order, up to and with the first that does not hold or has no value
abbrev pub keys_met : {F : Type 0} → (Key → Result Value F) → List Condition → List Key
keys_met answer [] = []
keys_met answer (x ∷ xs) = x.key ∷ behind (answer x.key) (λ w. if meets x w then keys_met answer xs else [])

-- the keys of columns in order, up to and with the first that has no value
abbrev pub keys_written : {F : Type 0} → (Key → Result Value F) → List Key → List Key
keys_written answer [] = []
keys_written answer (k ∷ ks) = k ∷ behind (answer k) (λ w. keys_written answer ks)

-- these keys where all conditions hold, and else none
abbrev pub keys_if_met : {F : Type 0} → Result Bool F → List Key → List Key
keys_if_met (Ok true) keys = keys
keys_if_met (Ok false) keys = []
keys_if_met (Err f) keys = []

-- those of the conditions, and where all of them hold those of the columns
abbrev pub keys_asked : {F : Type 0} → (Key → Result Value F) → List Condition → List Key → List Key
keys_asked answer conditions columns = keys_met answer conditions ++ keys_if_met (all_met answer conditions) (keys_written answer columns)
