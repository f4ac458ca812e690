use Rattle.std.proofs.Common.{sym, ◌∙◌}
use Rattle.fisca_grid_run.specs.Forms.{shown_form}
use Rattle.fisca_commands.proofs.LineWritten.{done_refused, done_stopped, done_whole}
use Rattle.fisca_commands.proofs.many_files.write_text.Goals as goal

pub returns-in-Ok : goal.returns-in-Ok
returns-in-Ok g c =
    done_whole c.args.rules.now (shown_form c.args.form.now) c.args.path.now c.args.number c.args.text.now
    (record { taken = g.S.RowSink.taken c.args.sink.now; failures = g.S.RowSink.failures c.args.sink.now })
    (record { taken = g.S.RowSink.taken c.calc_text.new.sink; failures = g.S.RowSink.failures c.calc_text.new.sink })
    (record { taken = g.T.RowSink.taken c.args.told.now; failures = g.T.RowSink.failures c.args.told.now }) c.in-Ok.field-0 c.requires.file c.in-Ok.ensures.written c.in-Ok.ensures.failures

pub returns-in-Some : goal.returns-in-Some
returns-in-Some g c =
    done_stopped c.args.rules.now (shown_form c.args.form.now) c.args.path.now c.args.number c.args.text.now
    (record { taken = g.S.RowSink.taken c.args.sink.now; failures = g.S.RowSink.failures c.args.sink.now })
    (record { taken = g.S.RowSink.taken c.calc_text.new.sink; failures = g.S.RowSink.failures c.calc_text.new.sink })
    (record { taken = g.T.RowSink.taken c.args.told.now; failures = g.T.RowSink.failures c.args.told.now }) c.in-Err.refusal c.in-Some.stop c.requires.file
    c.in-Err.ensures.written c.in-Err.ensures.failures (sym c.stop_of.ensures ∙ c.in-Some.is)

pub returns : goal.returns
returns g c =
    done_refused c.args.rules.now (shown_form c.args.form.now) c.args.path.now c.args.number c.args.text.now
    (record { taken = g.S.RowSink.taken c.args.sink.now; failures = g.S.RowSink.failures c.args.sink.now })
    (record { taken = g.S.RowSink.taken c.calc_text.new.sink; failures = g.S.RowSink.failures c.calc_text.new.sink })
    (record { taken = g.T.RowSink.taken c.args.told.now; failures = g.T.RowSink.failures c.args.told.now })
    (record { taken = g.T.RowSink.taken c.tell_refusal.new.told; failures = g.T.RowSink.failures c.tell_refusal.new.told }) c.in-Err.refusal c.tell_refusal.result c.requires.file
    c.in-Err.ensures.written c.in-Err.ensures.failures (sym c.stop_of.ensures ∙ c.in-None.is) c.tell_refusal.ensures
