use Rattle.std.proofs.Common.{◌≡◌, ℕ, ◌-◌, length, drop}
use Rattle.fisca_yaml.specs.Find.{get_entry, entry_line}
use Rattle.fisca_yaml.specs.Views.{entries_view}
use Rattle.fisca_yaml.proofs.tree.find.Given as goal

abbrev pub invariant-entries : goal.invariant-entries
invariant-entries l =
    (get_entry l.name (entries_view l.entries.items) ≡ get_entry l.name (entries_view (drop l.at l.entries.items)))
    × ((other : ℕ) → entry_line l.name other (entries_view l.entries.items) ≡ entry_line l.name other (entries_view (drop l.at l.entries.items)))

abbrev pub decreases-entries : goal.decreases-entries
decreases-entries l = length l.entries.items - l.at
