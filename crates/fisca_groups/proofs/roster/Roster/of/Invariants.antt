use Rattle.std.proofs.Common.{◌≡◌, ◌<◌, ◌≤◌, ℕ, ◌++◌, [], drop, get_or, length}
use Rattle.fisca_groups.specs.Lookup.{holders_from}
use Rattle.fisca_groups.proofs.roster.Roster.of.Given as goal

-- who is put in, and then who is left, are all
abbrev pub invariant-loop-person : goal.invariant-loop-person
invariant-loop-person l =
    ((g : ℕ) → length l.rows.items ≤ g → holders_from g 0 l.homes ≡ [])
    × ((g : ℕ) → g < length l.rows.items → get_or l.rows.items g [] ++ holders_from g l.person (drop l.person l.homes) ≡ holders_from g 0 l.homes)
    × (length l.homes ≤ 1000)
