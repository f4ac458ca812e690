use Rattle.std.proofs.Common.{◌≡◌, ℕ, List, take, false, is_some}
use Rattle.std.specs.List.{list_any}
use Rattle.std.specs.Str.{bytes_eq}
use Rattle.std.specs.BTreeMap.{get_by}
use Rattle.std.specs.Cmp.Lexicographic.{slice_cmp}
use Rattle.std.specs.Ordering.{nat_cmp}
use Rattle.fisca_yaml.specs.Node.{keys, repeats}
use Rattle.fisca_yaml.specs.Views.{entries_view}
use Rattle.fisca_yaml.proofs.keys.repeated_among_many.Given as goal

abbrev pub invariant-loop-entry : goal.invariant-loop-entry
invariant-loop-entry l =
    (repeats (take l.entry-index (keys (entries_view l.entries))) ≡ false)
    × ((q : List ℕ) → is_some (get_by (λ k. slice_cmp nat_cmp q k.now) l.seen) ≡ list_any (bytes_eq q) (take l.entry-index (keys (entries_view l.entries))))
