use Rattle.std.proofs.Common.{◌≡◌, ◌<◌, ◌≤◌, ◌+◌, ◌-◌, ◌∙◌, ℕ, length, Option, Some, Ok, Err, arith, sym, refl, ap, subst, unwrap_or}
use Rattle.std.proofs.lemmas.Result.{err_from_is_err_and}
use Rattle.fisca_writer.specs.Came.{HasPassed}
use Rattle.fisca_writer.specs.Row.{Row}
use Rattle.fisca_writer.specs.Run.{IsRowWritten}
use Rattle.fisca_writer.specs.Odometer.{product_of}
use Rattle.fisca_writer.specs.Ranges.{stop_of}
use Rattle.fisca_writer.proofs.Progress.{IsWritten, at_end, started, past_row, stopped_at_row, left_after, one_less-is, some_left}
use Rattle.fisca_writer.proofs.Coming.{near, moved_on, come_none, come_row, stopped}
use Rattle.fisca_writer.proofs.Walk.{length-positions_from}
use Rattle.fisca_writer.proofs.run.write_lines.Goals as goal

pub loop-position-init : goal.loop-position-init
loop-position-init g c =
    let at : c.new-odometer.result.next ≡ c.args.from = ap (λ r. r.next) c.new-odometer.ensures in
    let size : c.size-size.result ≡ product_of (g.R.Rows.counts c.args.rows.now) = c.size-size.ensures ∙ ap product_of c.groups-groups.ensures in
    record {
      written = rw at (started _ _ _ _ _);
      came = rw at (come_none g.R.Rows.worked g.R.Rows.refused _ _);
      here = λ less. absurd (omega arith);
      begun = ap (λ r. r.start) c.new-odometer.ensures;
      within = omega arith;
      stops = omega (arith, at);
      grid = ap (λ r. r.counts) c.new-odometer.ensures ∙ c.groups-groups.ensures;
      ready = c.requires;
      same_row = refl;
      same_counts = refl;
      unfailed = refl;
    }

pub write_row-requires-clause-position : goal.write_row-requires-clause-position
write_row-requires-clause-position g c =
    let given = c.in-Some.ensures.given in
    let i = c.loop-position.invariant in
    let grid : c.loop-position.odometer.counts ≡ g.R.Rows.counts c.loop-position.rows = i.grid ∙ sym i.same_counts in
    rw (sym grid) given.1

pub write_row-requires-clause-turned : goal.write_row-requires-clause-turned
write_row-requires-clause-turned g c =
    let i = c.loop-position.invariant in
    let given = c.in-Some.ensures.given in
    let on = moved_on c.loop-position.odometer c.next.new.self c.in-Some.position c.in-Some.ensures.moved given in
    let grid : c.next.new.self.counts ≡ g.R.Rows.counts c.loop-position.rows = on.2 ∙ (i.grid ∙ sym i.same_counts) in
    rw (sym grid) (near c.next.new.self c.turned.result c.in-Some.position (g.R.Rows.here c.loop-position.rows) c.turned.ensures on.0 (omega (arith, on.1, given.0, i.begun, i.came.0)) (λ less. rw given.0 (i.here (omega (arith, less, on.1, given.0, i.begun)))))

pub returns-in_err-write_row-clause-run : goal.returns-in_err-write_row-clause-run
returns-in_err-write_row-clause-run g c =
    let p = err_from_is_err_and c.from_residual.result c.from_residual.ensures.1 in
    let i = c.loop-position.invariant in
    let given = c.in-Some.ensures.given in
    let position = c.in-Some.position in
    let size : c.size-size.result ≡ product_of (g.R.Rows.counts c.args.rows.now) = c.size-size.ensures ∙ ap product_of c.groups-groups.ensures in
    let stop : c.unwrap_or-stop.result ≡ stop_of (product_of (g.R.Rows.counts c.args.rows.now)) c.args.limit = c.unwrap_or-stop.ensures ∙ ap (unwrap_or c.args.limit.to) size in
    let room : stop_of (product_of (g.R.Rows.counts c.args.rows.now)) c.args.limit ≤ product_of (g.R.Rows.counts c.args.rows.now) = omega (arith, size, stop) in
    let within : position < stop_of (product_of (g.R.Rows.counts c.args.rows.now)) c.args.limit = omega (arith, stop) in
    let so_far = rw (sym given.0) at i.written in
    let written = subst (λ (row : ℕ → Row g.row.R-Fault.Denot). IsRowWritten (row position) position (g.S.RowSink.taken c.loop-position.sink) (g.S.RowSink.taken c.write_row.new.sink) (Err c.in_err-write_row.field-0.0)) i.same_row c.in_err-write_row.ensures.written in
    rw (p.1, p.2) (stopped_at_row (g.R.Rows.row_at c.args.rows.now) (product_of (g.R.Rows.counts c.args.rows.now)) c.args.from c.args.limit _ _ _ _ so_far (omega (arith, given.0, i.came.0)) _ _ room within (some_left _ _ c.eq.ensures c.if-eq.false) written)

pub returns-in_err-write_row-clause-came : goal.returns-in_err-write_row-clause-came
returns-in_err-write_row-clause-came g c =
    let p = err_from_is_err_and c.from_residual.result c.from_residual.ensures.1 in
    let i = c.loop-position.invariant in
    let given = c.in-Some.ensures.given in
    let so_far = rw (sym given.0) at i.came in
    rw (p.1, p.2) (stopped g.R.Rows.worked g.R.Rows.refused (product_of (g.R.Rows.counts c.args.rows.now)) _ _ _ _ _ _ _ c.in-Some.position _ so_far c.in_err-write_row.ensures.written c.in_err-write_row.ensures.step)

pub loop-position-preserved-in-Kept : goal.loop-position-preserved-in-Kept
loop-position-preserved-in-Kept g c =
    let i = c.loop-position.invariant in
    let given = c.in-Some.ensures.given in
    let position = c.in-Some.position in
    let on = moved_on c.loop-position.odometer c.next.new.self position c.in-Some.ensures.moved given in
    let within : position < product_of (g.R.Rows.counts c.args.rows.now) = rw (sym i.grid) given.1 in
    let size : c.size-size.result ≡ product_of (g.R.Rows.counts c.args.rows.now) = c.size-size.ensures ∙ ap product_of c.groups-groups.ensures in
    let stop : c.unwrap_or-stop.result ≡ stop_of (product_of (g.R.Rows.counts c.args.rows.now)) c.args.limit = c.unwrap_or-stop.ensures ∙ ap (unwrap_or c.args.limit.to) size in
    let inside : position < stop_of (product_of (g.R.Rows.counts c.args.rows.now)) c.args.limit = omega (arith, stop) in
    let some = some_left _ _ c.eq.ensures c.if-eq.false in
    let so_far = rw (sym given.0) at i.written in
    let here = rw (sym given.0) at i.came in
    let written = subst (λ (row : ℕ → Row g.row.R-Fault.Denot). IsRowWritten (row position) position (g.S.RowSink.taken c.loop-position.sink) (g.S.RowSink.taken c.write_row.new.sink) (Ok c.in_ok-write_row.field-0)) i.same_row c.in_ok-write_row.ensures.written in
    let left : left_after c.in_ok-write_row.field-0 c.loop-position.left ≡ c.one_less-left.result = ap (λ selection. left_after selection c.loop-position.left) c.in-Kept.is ∙ (one_less-is _ some ∙ sym c.one_less-left.ensures) in
    let unfailed : g.S.RowSink.failures c.write_row.new.sink ≡ g.S.RowSink.failures c.loop-position.sink = c.in_ok-write_row.ensures.failures in
    let next : c.next.new.self.next ≡ position + 1 = on.0 in
    record {
      written = rw next (subst (λ (left : Option ℕ). IsWritten (g.R.Rows.row_at c.args.rows.now) (stop_of (product_of (g.R.Rows.counts c.args.rows.now)) c.args.limit) c.args.from c.args.limit.rows (g.S.RowSink.taken c.args.sink.now) (g.S.RowSink.taken c.write_row.new.sink) (position + 1) left) left
          (past_row _ _ _ _ _ _ _ _ _ _ so_far inside some written));
      came = rw next (come_row g.R.Rows.worked g.R.Rows.refused _ _ _ c.args.from position here c.in_ok-write_row.ensures.step);
      here = λ less. c.write_row.ensures.here ∙ ap Some (omega (arith, next));
      begun = on.1 ∙ i.begun;
      within = omega (arith, next, within);
      stops = omega (arith, next, inside);
      grid = on.2 ∙ i.grid;
      ready = c.write_row.ensures.ready;
      same_row = c.write_row.ensures.same_row ∙ i.same_row;
      same_counts = c.write_row.ensures.same_counts ∙ i.same_counts;
      unfailed = unfailed ∙ i.unfailed;
    }

pub loop-position-preserved : goal.loop-position-preserved
loop-position-preserved g c =
    let i = c.loop-position.invariant in
    let given = c.in-Some.ensures.given in
    let position = c.in-Some.position in
    let on = moved_on c.loop-position.odometer c.next.new.self position c.in-Some.ensures.moved given in
    let within : position < product_of (g.R.Rows.counts c.args.rows.now) = rw (sym i.grid) given.1 in
    let size : c.size-size.result ≡ product_of (g.R.Rows.counts c.args.rows.now) = c.size-size.ensures ∙ ap product_of c.groups-groups.ensures in
    let stop : c.unwrap_or-stop.result ≡ stop_of (product_of (g.R.Rows.counts c.args.rows.now)) c.args.limit = c.unwrap_or-stop.ensures ∙ ap (unwrap_or c.args.limit.to) size in
    let inside : position < stop_of (product_of (g.R.Rows.counts c.args.rows.now)) c.args.limit = omega (arith, stop) in
    let some = some_left _ _ c.eq.ensures c.if-eq.false in
    let so_far = rw (sym given.0) at i.written in
    let here = rw (sym given.0) at i.came in
    let written = subst (λ (row : ℕ → Row g.row.R-Fault.Denot). IsRowWritten (row position) position (g.S.RowSink.taken c.loop-position.sink) (g.S.RowSink.taken c.write_row.new.sink) (Ok c.in_ok-write_row.field-0)) i.same_row c.in_ok-write_row.ensures.written in
    let left : left_after c.in_ok-write_row.field-0 c.loop-position.left ≡ c.loop-position.left = ap (λ selection. left_after selection c.loop-position.left) c.in-Dropped.is in
    let unfailed : g.S.RowSink.failures c.write_row.new.sink ≡ g.S.RowSink.failures c.loop-position.sink = c.in_ok-write_row.ensures.failures in
    let next : c.next.new.self.next ≡ position + 1 = on.0 in
    record {
      written = rw next (subst (λ (left : Option ℕ). IsWritten (g.R.Rows.row_at c.args.rows.now) (stop_of (product_of (g.R.Rows.counts c.args.rows.now)) c.args.limit) c.args.from c.args.limit.rows (g.S.RowSink.taken c.args.sink.now) (g.S.RowSink.taken c.write_row.new.sink) (position + 1) left) left
          (past_row _ _ _ _ _ _ _ _ _ _ so_far inside some written));
      came = rw next (come_row g.R.Rows.worked g.R.Rows.refused _ _ _ c.args.from position here c.in_ok-write_row.ensures.step);
      here = λ less. c.write_row.ensures.here ∙ ap Some (omega (arith, next));
      begun = on.1 ∙ i.begun;
      within = omega (arith, next, within);
      stops = omega (arith, next, inside);
      grid = on.2 ∙ i.grid;
      ready = c.write_row.ensures.ready;
      same_row = c.write_row.ensures.same_row ∙ i.same_row;
      same_counts = c.write_row.ensures.same_counts ∙ i.same_counts;
      unfailed = unfailed ∙ i.unfailed;
    }

pub returns-clause-came : goal.returns-clause-came
returns-clause-came g c =
    let i = c.loop-position.invariant in
    let next = c.loop-position.odometer.next in
    let size = product_of c.loop-position.odometer.counts in
    let none : size - next ≡ 0 = sym (length-positions_from size next) ∙ ap length c.in_default.ensures.gives.0 in
    let over : size ≤ next = omega (arith, none) in
    let end : next ≡ product_of (g.R.Rows.counts c.args.rows.now) = omega (arith, i.within, over, ap product_of i.grid) in
    subst (λ (stop : ℕ). HasPassed g.R.Rows.worked c.args.from stop c.args.rows.now c.loop-position.rows) end i.came

-- the ends, where the run stops before a position or behind a line, or no position is left
pub returns-clause-run : goal.returns-clause-run
returns-clause-run g c =
    let i = c.loop-position.invariant in
    let next = c.loop-position.odometer.next in
    let size : c.size-size.result ≡ product_of (g.R.Rows.counts c.args.rows.now) = c.size-size.ensures ∙ ap product_of c.groups-groups.ensures in
    let stop : c.unwrap_or-stop.result ≡ stop_of (product_of (g.R.Rows.counts c.args.rows.now)) c.args.limit = c.unwrap_or-stop.ensures ∙ ap (unwrap_or c.args.limit.to) size in
    let none : product_of c.loop-position.odometer.counts - next ≡ 0 = sym (length-positions_from (product_of c.loop-position.odometer.counts) next) ∙ ap length c.in_default.ensures.gives.0 in
    let over : product_of (g.R.Rows.counts c.args.rows.now) ≤ next = omega (arith, none, ap product_of i.grid) in
    let room : stop_of (product_of (g.R.Rows.counts c.args.rows.now)) c.args.limit ≤ product_of (g.R.Rows.counts c.args.rows.now) = omega (arith, size, stop) in
    let inside : c.args.from ≤ product_of (g.R.Rows.counts c.args.rows.now) = omega (arith, size) in
    let end = at_end (g.R.Rows.row_at c.args.rows.now) (product_of (g.R.Rows.counts c.args.rows.now)) c.args.from c.args.limit _ _ _ _ i.written i.came.0 over room i.stops in
    ((inside, room), end.0, end.1)
