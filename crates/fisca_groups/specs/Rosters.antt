-- A table of the persons of groups.
use Rattle.std.specs.Prelude.{◌≡◌, ℕ, List, [], get_or, Option}
use Rattle.fisca_groups.specs.Lookup.{holders_from}
use Rattle.fisca_groups.specs.declared.home.Home.{Home}

-- the persons of each group, by where persons belong
abbrev pub IsRoster : List (Option Home) → List (List ℕ) → Type 0
IsRoster homes rows = (group : ℕ) → get_or rows group [] ≡ holders_from group 0 homes
