-- Marks of variables, by their places; past the last there are none.
use Rattle.std.specs.Prelude.{ℕ, ◌==◌, ◌^◌, List, Bool, false, if◌then◌else◌, slice_get}
use Rattle.std.specs.Int.Bits.{bit_or}
use Rattle.std.specs.Option.{unwrap_or}

-- what stands at a place, or nothing
abbrev pub at_or : {X : Type 0} → X → List X → ℕ → X
at_or nothing marks x = unwrap_or (slice_get marks x) nothing

-- whether a variable is marked
abbrev pub is_at : List Bool → ℕ → Bool
is_at = at_or false

-- the wheels of a variable, as the bits of a number
abbrev pub wheels_at : List ℕ → ℕ → ℕ
wheels_at = at_or 0

-- one variable has one wheel more
abbrev pub with_wheel : ℕ → ℕ → (ℕ → ℕ) → ℕ → ℕ
with_wheel wheel place wheels x = if x == place then bit_or (wheels x) (2 ^ wheel) else wheels x
