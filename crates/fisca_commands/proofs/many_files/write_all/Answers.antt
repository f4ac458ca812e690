use Rattle.std.proofs.Common.{◌<◌, ◌+◌, ◌^◌, arith}
use Rattle.fisca_commands.specs.CalcLines.{streams_of}
use Rattle.fisca_grid_run.specs.Forms.{shown_form}
use Rattle.fisca_commands.proofs.LinesPassed.{exhausted, so_far_more, so_far_none, stopped}
use Rattle.fisca_commands.proofs.many_files.write_all.Goals as goal

pub loop-number-init : goal.loop-number-init
loop-number-init g c =
    so_far_none c.args.rules.now (shown_form c.args.form.now) c.args.path.now
    (streams_of (g.L.LineSource.left c.args.source.now) (g.S.RowSink.taken c.args.sink.now) (g.S.RowSink.failures c.args.sink.now) (g.T.RowSink.taken c.args.told.now) (g.T.RowSink.failures c.args.told.now))

pub returns-in-Err : goal.returns-in-Err
returns-in-Err g c =
    let old = streams_of (g.L.LineSource.left c.args.source.now) (g.S.RowSink.taken c.args.sink.now) (g.S.RowSink.failures c.args.sink.now) (g.T.RowSink.taken c.args.told.now) (g.T.RowSink.failures c.args.told.now) in
    let now = streams_of (g.L.LineSource.left c.loop-number.source) (g.S.RowSink.taken c.loop-number.sink) (g.S.RowSink.failures c.loop-number.sink) (g.T.RowSink.taken c.loop-number.told) (g.T.RowSink.failures c.loop-number.told) in
    let new = streams_of (g.L.LineSource.left c.write_next.new.source) (g.S.RowSink.taken c.write_next.new.sink) (g.S.RowSink.failures c.write_next.new.sink) (g.T.RowSink.taken c.write_next.new.told) (g.T.RowSink.failures c.write_next.new.told) in
    stopped c.args.rules.now (shown_form c.args.form.now) c.args.path.now old now new c.loop-number.number c.loop-number.worst c.in-Err.stop c.ending_of.result c.loop-number.invariant c.in-Err.ensures.done c.ending_of.ensures

pub loop-number-preserved : goal.loop-number-preserved
loop-number-preserved g c =
    let old = streams_of (g.L.LineSource.left c.args.source.now) (g.S.RowSink.taken c.args.sink.now) (g.S.RowSink.failures c.args.sink.now) (g.T.RowSink.taken c.args.told.now) (g.T.RowSink.failures c.args.told.now) in
    let now = streams_of (g.L.LineSource.left c.loop-number.source) (g.S.RowSink.taken c.loop-number.sink) (g.S.RowSink.failures c.loop-number.sink) (g.T.RowSink.taken c.loop-number.told) (g.T.RowSink.failures c.loop-number.told) in
    let new = streams_of (g.L.LineSource.left c.write_next.new.source) (g.S.RowSink.taken c.write_next.new.sink) (g.S.RowSink.failures c.write_next.new.sink) (g.T.RowSink.taken c.write_next.new.told) (g.T.RowSink.failures c.write_next.new.told) in
    so_far_more c.args.rules.now (shown_form c.args.form.now) c.args.path.now old now new c.loop-number.number c.loop-number.worst c.in-Ok.status c.max-worst.result c.max-worst.ensures
    c.loop-number.invariant c.in-Ok.ensures.few c.in-Ok.ensures.done

pub returns : goal.returns
returns g c =
    let old = streams_of (g.L.LineSource.left c.args.source.now) (g.S.RowSink.taken c.args.sink.now) (g.S.RowSink.failures c.args.sink.now) (g.T.RowSink.taken c.args.told.now) (g.T.RowSink.failures c.args.told.now) in
    let now = streams_of (g.L.LineSource.left c.loop-number.source) (g.S.RowSink.taken c.loop-number.sink) (g.S.RowSink.failures c.loop-number.sink) (g.T.RowSink.taken c.loop-number.told) (g.T.RowSink.failures c.loop-number.told) in
    let many : 2 ^ 63 + 1 < c.loop-number.number = omega (arith, c.loop-number-test.false) in
    exhausted c.args.rules.now (shown_form c.args.form.now) c.args.path.now old now c.loop-number.number c.loop-number.worst c.ending_of-2.result c.loop-number.invariant many c.ending_of-2.ensures
