-- Which wheels move the inputs of each variable: the wheels of its slots, as the bits of a number.
use Rattle.std.specs.Prelude.{◌≡◌, ◌<◌, ℕ, ◌==◌, Bool, List, Some, slice_get}
use Rattle.std.specs.Int.{bit_at}
use Rattle.std.specs.Option.{unwrap_or}
use Rattle.fisca_situations.specs.Slots.{Slot}

-- the variable at this place has the wheel's mark; past the last there is none
abbrev pub has_mark : List ℕ → ℕ → ℕ → Bool
has_mark wheels x wheel = bit_at (unwrap_or (slice_get wheels x) 0) wheel == 1

-- a slot of this wheel moves the variable
abbrev pub IsMoved : List Slot → ℕ → ℕ → Type 0
IsMoved ss x wheel = (i : ℕ) × (s : Slot) × (slice_get ss i ≡ Some s) × (s.variable ≡ x) × (s.wheel ≡ wheel)

-- each slot moves one of so many variables, and its wheel is one of 16
abbrev pub AreWithin : ℕ → List Slot → Type 0
AreWithin variables ss = (i : ℕ) (s : Slot) → slice_get ss i ≡ Some s → (s.variable < variables) × (s.wheel < 16)
