use Rattle.std.proofs.Common.{◌≡◌, ◌+◌, ◌*◌, ◌≤◌, ◌∷◌, length, option_map}
use Rattle.fisca_yaml_scalars.specs.Deeper.{front, after}
use Rattle.fisca_yaml.specs.Grouping.{groups, items_of, entries_of, item_value, entry_value, block}
use Rattle.fisca_yaml_scalars.specs.Lines.{row}
use Rattle.fisca_yaml.proofs.Groups.{pending, waiting, Settled}
use Rattle.fisca_yaml_scalars.specs.Rows.{last_number, with_row}
use Rattle.fisca_yaml.specs.Node.{AreNumbered, last_line}
use Rattle.fisca_yaml.specs.Views.{entries_view, items_before, entries_before}
use Rattle.fisca_yaml.proofs.reader.+read.Given as goal

abbrev pub decreases-read_below : goal.decreases-read_below
decreases-read_below l = 5 * l.depth + 1

abbrev pub decreases-read_block : goal.decreases-read_block
decreases-read_block l = 5 * l.depth

abbrev pub decreases-read_entries : goal.decreases-read_entries
decreases-read_entries l = 5 * l.depth + 4

abbrev pub decreases-read_value : goal.decreases-read_value
decreases-read_value l = 5 * l.depth + 2

abbrev pub decreases-read_entry : goal.decreases-read_entry
decreases-read_entry l = 5 * l.depth + 3

abbrev pub decreases-read_item : goal.decreases-read_item
decreases-read_item l = 5 * l.depth + 2

abbrev pub decreases-read_items : goal.decreases-read_items
decreases-read_items l = 5 * l.depth + 4

abbrev pub invariant-read_entries-loop-next : goal.invariant-read_entries-loop-next
invariant-read_entries-loop-next l = record {
  turn : entries_of (entry_value l.depth (block l.depth)) l.rank (groups l.rank (row l.fn.head ∷ front l.floor l.initial.rest)) ≡ option_map (entries_before l.entries.items) (entries_of (entry_value l.depth (block l.depth)) l.rank (groups l.rank (pending l.floor (option_map row l.next) l.rest)));
  left : after l.floor l.rest ≡ after l.floor l.initial.rest;
  next : Settled l.floor l.rank (option_map row l.next) l.rest;
  bound : last_number (with_row (option_map row l.next) l.rest) ≤ last_number (row l.fn.head ∷ l.initial.rest);
  numbered : AreNumbered (entries_view l.entries.items);
  lines : last_line (entries_view l.entries.items) ≤ last_number (row l.fn.head ∷ l.initial.rest);
}

abbrev pub decreases-read_entries-loop-next : goal.decreases-read_entries-loop-next
decreases-read_entries-loop-next l = length l.rest + waiting l.next

abbrev pub invariant-read_items-loop-next : goal.invariant-read_items-loop-next
invariant-read_items-loop-next l = record {
  turn : items_of (item_value l.depth (block l.depth)) l.rank (groups l.rank (row l.fn.head ∷ front l.floor l.initial.rest)) ≡ option_map (items_before l.items.items) (items_of (item_value l.depth (block l.depth)) l.rank (groups l.rank (pending l.floor (option_map row l.next) l.rest)));
  left : after l.floor l.rest ≡ after l.floor l.initial.rest;
  next : Settled l.floor l.rank (option_map row l.next) l.rest;
  bound : last_number (with_row (option_map row l.next) l.rest) ≤ last_number (row l.fn.head ∷ l.initial.rest);
}

abbrev pub decreases-read_items-loop-next : goal.decreases-read_items-loop-next
decreases-read_items-loop-next l = length l.rest + waiting l.next
