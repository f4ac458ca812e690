use Rattle.std.proofs.Common.{◌≡◌, ℕ, ◌+◌, ◌*◌, ◌≤◌, length}
use Rattle.fisca_yaml.specs.Node.{AreNumbered, last_line, no_items, item, no_entries}
use Rattle.fisca_yaml.specs.Flow.{parse_map, series, flow_items, flow_entries, flow_entry, add_pair, flow_value}
use Rattle.fisca_yaml.specs.Views.{entries_view, items_before, entries_before}
use Rattle.fisca_yaml.proofs.flow.+flow.Given as goal

abbrev pub decreases-read_flow : goal.decreases-read_flow
decreases-read_flow l = 4 * l.depth

abbrev pub decreases-read_flow_beside : goal.decreases-read_flow_beside
decreases-read_flow_beside l = 4 * l.depth + 1

abbrev pub decreases-read_flow_entry : goal.decreases-read_flow_entry
decreases-read_flow_entry l = 4 * l.depth + 2

abbrev pub decreases-read_flow_entries : goal.decreases-read_flow_entries
decreases-read_flow_entries l = 4 * l.depth + 3

abbrev pub decreases-read_flow_items : goal.decreases-read_flow_items
decreases-read_flow_items l = 4 * l.depth + 3

abbrev pub invariant-read_flow_items-loop-alloc : goal.invariant-read_flow_items-loop-alloc
invariant-read_flow_items-loop-alloc l =
    (n : ℕ) × (length l.flow ≤ n) × (flow_items (flow_value l.depth l.number) l.number l.initial.flow ≡ parse_map (items_before l.items.items) (series 93 no_items (item l.number) (flow_value l.depth l.number) n l.flow))
    × (length l.flow ≤ length l.initial.flow)

abbrev pub decreases-read_flow_items-loop-alloc : goal.decreases-read_flow_items-loop-alloc
decreases-read_flow_items-loop-alloc l = length l.flow

abbrev pub invariant-read_flow_entries-loop-alloc : goal.invariant-read_flow_entries-loop-alloc
invariant-read_flow_entries-loop-alloc l =
    (n : ℕ) × (length l.flow ≤ n) × (flow_entries (flow_value l.depth l.number) l.number l.initial.flow ≡ parse_map (entries_before l.entries.items) (series 125 no_entries (add_pair l.number) (flow_entry (flow_value l.depth l.number)) n l.flow))
    × (length l.flow ≤ length l.initial.flow) × AreNumbered (entries_view l.entries.items) × (last_line (entries_view l.entries.items) ≤ l.number)

abbrev pub decreases-read_flow_entries-loop-alloc : goal.decreases-read_flow_entries-loop-alloc
decreases-read_flow_entries-loop-alloc l = length l.flow
