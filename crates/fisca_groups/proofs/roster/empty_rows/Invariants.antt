use Rattle.std.proofs.Common.{◌≡◌, ◌≤◌, ℕ, [], get_or, length}
use Rattle.fisca_groups.proofs.roster.empty_rows.Given as goal

abbrev pub invariant-loop : goal.invariant-loop
invariant-loop l = (length l.rows.items ≡ l.counter) × (l.counter ≤ l.count) × ((g : ℕ) → get_or l.rows.items g [] ≡ [])
