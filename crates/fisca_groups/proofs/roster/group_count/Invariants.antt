use Rattle.std.proofs.Common.{◌≡◌, ◌≤◌, ℕ, drop}
use Rattle.fisca_groups.specs.Lookup.{holders_from}
use Rattle.fisca_groups.proofs.roster.group_count.Given as goal

-- a group from the number on holds none of the persons so far
abbrev pub invariant-loop-home : goal.invariant-loop-home
invariant-loop-home l = (g : ℕ) → l.count ≤ g → holders_from g l.home-index (drop l.home-index l.homes) ≡ holders_from g 0 l.homes
