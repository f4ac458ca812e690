use Rattle.std.proofs.Common.{◌<◌, ◌≤◌, ◌^◌, inl, inr, length, refl, arith}
use Rattle.fisca_commands.specs.CalcLines.{line_told}
use Rattle.std.specs.Prelude.{codes}
use Rattle.fisca_grid_run.specs.Forms.{shown_form}
use Rattle.fisca_commands.proofs.LineWritten.{done_told}
use Rattle.fisca_commands.proofs.many_files.write_line.Goals as goal

pub returns-then-line-gt-LONGEST : goal.returns-then-line-gt-LONGEST
returns-then-line-gt-LONGEST g c =
    let long : 2 ^ 20 < length c.args.line.now = omega (arith, c.if-line-gt-LONGEST.true) in
    done_told c.args.rules.now (shown_form c.args.form.now) c.args.path.now c.args.number c.args.line.now (line_told c.args.path.now c.args.number (codes "TooLong")) 3
    (record { taken = g.S.RowSink.taken c.args.sink.now; failures = g.S.RowSink.failures c.args.sink.now })
    (record { taken = g.T.RowSink.taken c.args.told.now; failures = g.T.RowSink.failures c.args.told.now })
    (record { taken = g.T.RowSink.taken c.tell.new.told; failures = g.T.RowSink.failures c.tell.new.told }) c.tell.result (inl (long, refl)) c.tell.ensures

pub returns-in-Err : goal.returns-in-Err
returns-in-Err g c =
    let short : length c.args.line.now ≤ 2 ^ 20 = omega (arith, c.if-line-gt-LONGEST.false) in
    done_told c.args.rules.now (shown_form c.args.form.now) c.args.path.now c.args.number c.args.line.now (line_told c.args.path.now c.args.number (codes "cannot read")) 5
    (record { taken = g.S.RowSink.taken c.args.sink.now; failures = g.S.RowSink.failures c.args.sink.now })
    (record { taken = g.T.RowSink.taken c.args.told.now; failures = g.T.RowSink.failures c.args.told.now })
    (record { taken = g.T.RowSink.taken c.tell-in-Err.new.told; failures = g.T.RowSink.failures c.tell-in-Err.new.told }) c.tell-in-Err.result
    (inr (inl (short, c.in-Err.ensures.cases.0, refl))) c.tell-in-Err.ensures
