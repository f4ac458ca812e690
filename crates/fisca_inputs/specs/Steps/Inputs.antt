-- The steps of code behind `Inputs`:
-- The inputs of a situation.
use Rattle.std.specs.Prelude.{ℕ, false, slice_get, List, Bool}
use Rattle.std.specs.Option.{unwrap_or}

-- Neutralised variables

-- marks by the places of variables; there is none past the last
abbrev pub is_marked : List Bool → ℕ → Bool
is_marked marks x = unwrap_or (slice_get marks x) false
