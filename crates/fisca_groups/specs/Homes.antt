-- Which persons a group of a kind holds, and one more that it holds.
use Rattle.std.specs.Prelude.{ℕ, List, set, Option, Some}
use Rattle.fisca_groups.specs.declared.home.Home.{Home}

abbrev pub held_by : List (Option Home) → ℕ → Home → List (Option Home)
held_by hs p home = set hs p (Some home)
