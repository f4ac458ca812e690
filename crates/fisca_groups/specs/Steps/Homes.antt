-- The steps of code behind `Homes`:
-- Which persons a group of a kind holds, and one more that it holds.
use Rattle.std.specs.Prelude.{ℕ, List, Bool, false, slice_get, Option, Some, None, is_some}
use Rattle.fisca_groups.specs.declared.home.Home.{Home}

abbrev pub is_home : Option (Option Home) → Bool
is_home None = false
is_home (Some home) = is_some home

-- a group of the kind holds this person
abbrev pub is_held : List (Option Home) → ℕ → Bool
is_held hs p = is_home (slice_get hs p)
