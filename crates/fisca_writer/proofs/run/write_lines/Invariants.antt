use Rattle.std.proofs.Common.{◌≡◌, ◌-◌, ◌<◌, ◌≤◌, Some, max}
use Rattle.fisca_writer.specs.Odometer.{product_of}
use Rattle.fisca_writer.specs.Came.{HasPassed}
use Rattle.fisca_writer.specs.Ranges.{stop_of}
use Rattle.fisca_writer.proofs.Progress.{IsWritten}
use Rattle.fisca_writer.proofs.run.write_lines.Given as goal

-- the lines before the next position are written and their rows worked out, the rows stand at the position before it, are ready and what they were, and the sink has not failed
abbrev pub invariant-loop-position : goal.invariant-loop-position
invariant-loop-position g l =
    record {
      written : IsWritten (g.R.Rows.row_at l.initial.rows) (stop_of (product_of (g.R.Rows.counts l.initial.rows)) l.fn.limit) l.fn.from l.fn.limit.rows (g.S.RowSink.taken l.initial.sink) (g.S.RowSink.taken l.sink) l.odometer.next l.left;
      came : HasPassed g.R.Rows.worked l.fn.from l.odometer.next l.initial.rows l.rows;
      here : l.fn.from < l.odometer.next → g.R.Rows.here l.rows ≡ Some (l.odometer.next - 1);
      begun : l.odometer.start ≡ l.fn.from;
      within : l.odometer.next ≤ product_of (g.R.Rows.counts l.initial.rows);
      stops : l.odometer.next ≤ max l.fn.from (stop_of (product_of (g.R.Rows.counts l.initial.rows)) l.fn.limit);
      grid : l.odometer.counts ≡ g.R.Rows.counts l.initial.rows;
      ready : g.R.Rows.ready l.rows;
      same_row : g.R.Rows.row_at l.rows ≡ g.R.Rows.row_at l.initial.rows;
      same_counts : g.R.Rows.counts l.rows ≡ g.R.Rows.counts l.initial.rows;
      unfailed : g.S.RowSink.failures l.sink ≡ g.S.RowSink.failures l.initial.sink;
    }

abbrev pub decreases-loop-position : goal.decreases-loop-position
decreases-loop-position g l = product_of (g.R.Rows.counts l.initial.rows) - l.odometer.next
