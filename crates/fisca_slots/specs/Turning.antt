-- What stands at the keys of slots where these have values, and which wheels have the same place.
use Rattle.std.specs.Prelude.{◌≡◌, ⊤, ℕ, suc, nat_lt, List, [], ◌∷◌, ◌++◌, map, if◌then◌else◌, slice_get}
use Rattle.fisca_inputs.specs.Entries.{Entries}
use Rattle.fisca_num.specs.Number.{Number}
use Rattle.fisca_situations.specs.Slots.{Slot}
use Rattle.fisca_situations.specs.Steps.Slots.{turned}

-- for each axis of these groups the place of its group, where the first group has this one
abbrev pub wheels_from : {X : Type 0} → ℕ → List (List X) → List ℕ
wheels_from wheel [] = []
wheels_from wheel (group ∷ groups) = map (λ axis. wheel) group ++ wheels_from (suc wheel) groups

-- the inputs, where the slots of the wheels before this one are turned to their values
abbrev pub turned_below : ℕ → List Slot → List Number → Entries → Entries
turned_below wheel [] vs es = es
turned_below wheel (s ∷ ss) [] es = es
turned_below wheel (s ∷ ss) (v ∷ vs) es = turned_below wheel ss vs (if nat_lt s.wheel wheel then turned s v es else es)

-- a wheel has the same place here and there
abbrev pub IsSamePlace : List ℕ → List ℕ → ℕ → Type 0
IsSamePlace here there wheel = slice_get here wheel ≡ slice_get there wheel

-- each wheel has that moves this variable
abbrev pub AreSamePlaces : List ℕ → List ℕ → List Slot → ℕ → Type 0
AreSamePlaces here there [] x = ⊤
AreSamePlaces here there (s ∷ ss) x = (s.variable ≡ x → IsSamePlace here there s.wheel) × AreSamePlaces here there ss x
