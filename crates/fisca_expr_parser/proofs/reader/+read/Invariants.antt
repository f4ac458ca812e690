use Rattle.std.proofs.Common.{◌≡◌, ℕ, ◌+◌, ◌-◌, ◌*◌, ◌≤◌, length}
use Rattle.fisca_ast.specs.Tree.{nothing, height_all}
use Rattle.fisca_expr_parser.specs.Reading.{and_then, pure, reads, climb, series}
use Rattle.fisca_ast.specs.Views.{tree, before}
use Rattle.fisca_expr_parser.proofs.reader.+read.Given as goal

abbrev pub decreases-read : goal.decreases-read
decreases-read l = 8 * l.depth

abbrev pub decreases-read_argument : goal.decreases-read_argument
decreases-read_argument l = 8 * l.depth + 2

abbrev pub decreases-read_series : goal.decreases-read_series
decreases-read_series l = 8 * l.depth + 3

abbrev pub decreases-read_enclosed : goal.decreases-read_enclosed
decreases-read_enclosed l = 8 * l.depth + 4

abbrev pub decreases-read_opened : goal.decreases-read_opened
decreases-read_opened l = 8 * l.limit - 3

abbrev pub decreases-read_operand : goal.decreases-read_operand
decreases-read_operand l = 8 * l.limit - 2

abbrev pub decreases-read_joined : goal.decreases-read_joined
decreases-read_joined l = 8 * l.limit - 3

abbrev pub decreases-read_onward : goal.decreases-read_onward
decreases-read_onward l = 8 * l.limit - 2

abbrev pub decreases-read_compared : goal.decreases-read_compared
decreases-read_compared l = 8 * l.limit - 2

abbrev pub decreases-read_onward-loop-alloc : goal.decreases-read_onward-loop-alloc
decreases-read_onward-loop-alloc l = l.limit - l.left.height

abbrev pub invariant-read_onward-loop-alloc : goal.invariant-read_onward-loop-alloc
invariant-read_onward-loop-alloc l =
    (n : ℕ) × (l.limit ≤ n + l.left.height) × (l.left.height ≤ l.limit)
    × (climb (reads l.mode (l.limit - 1)) l.limit l.least l.limit (tree l.fn.first.expr) l.initial.cursor ≡ climb (reads l.mode (l.limit - 1)) l.limit l.least n (tree l.left.expr) l.cursor)

abbrev pub invariant-read_series-loop-turn : goal.invariant-read_series-loop-turn
invariant-read_series-loop-turn l =
    (series (reads l.mode l.depth) l.fn.place l.end (length l.initial.cursor) l.initial.cursor
    ≡ and_then (series (reads l.mode l.depth) l.place l.end (l._turn-end - l._turn) l.cursor) (λ xs. pure (before l.items.items xs)))
    × (l.height ≡ height_all (before l.items.items nothing)) × (l.height ≤ l.depth)

abbrev pub decreases-read_within : goal.decreases-read_within
decreases-read_within l = 8 * l.limit - 1

abbrev pub decreases-read_entry : goal.decreases-read_entry
decreases-read_entry l = 8 * l.depth + 1
