use Rattle.std.proofs.Common.{List, ℕ, Ok, Err, arith, subst}
use Rattle.fisca_commands.specs.CalcLines.{IsNextLine, streams_of}
use Rattle.fisca_grid_run.specs.Forms.{shown_form}
use Rattle.fisca_commands.specs.Steps.CalcLines.{IsLineDone}
use Rattle.fisca_commands.proofs.LineWritten.{next_lacking, next_line, next_unread}
use Rattle.fisca_commands.proofs.many_files.write_next.Goals as goal

pub returns-in-Ok-true-clause-done : goal.returns-in-Ok-true-clause-done
returns-in-Ok-true-clause-done g c =
    let old = streams_of (g.L.LineSource.left c.args.source.now) (g.S.RowSink.taken c.args.sink.now) (g.S.RowSink.failures c.args.sink.now) (g.T.RowSink.taken c.args.told.now) (g.T.RowSink.failures c.args.told.now) in
    let new = streams_of (g.L.LineSource.left c.next_line.new.self) (g.S.RowSink.taken c.write_line.new.sink) (g.S.RowSink.failures c.write_line.new.sink) (g.T.RowSink.taken c.write_line.new.told) (g.T.RowSink.failures c.write_line.new.told) in
    let done = subst (λ (bytes : List ℕ). IsLineDone c.args.rules.now (shown_form c.args.form.now) c.args.path.now c.args.number bytes old.sink new.sink old.told new.told c.write_line.result) c.as_slice.ensures.value c.write_line.ensures in
    let next = subst (λ is. IsNextLine 1048577 old.left new.left c.next_line.new.line.items (Ok is)) c.in-Ok-true.field-0-test c.in-Ok-true.ensures.next in
    next_line c.args.rules.now (shown_form c.args.form.now) c.args.path.now c.args.number 1048577 old new c.next_line.new.line.items c.write_line.result (omega arith) next done

pub returns-in-Err-Read-clause-done : goal.returns-in-Err-Read-clause-done
returns-in-Err-Read-clause-done g c =
    let old = streams_of (g.L.LineSource.left c.args.source.now) (g.S.RowSink.taken c.args.sink.now) (g.S.RowSink.failures c.args.sink.now) (g.T.RowSink.taken c.args.told.now) (g.T.RowSink.failures c.args.told.now) in
    let next = subst (λ fault. IsNextLine 1048577 old.left (g.L.LineSource.left c.next_line.new.self) c.next_line.new.line.items (Err fault)) c.in-Err-Read.field-0-is c.in-Err-Read.ensures.next in
    next_unread c.args.rules.now (shown_form c.args.form.now) c.args.path.now c.args.number 1048577 (g.L.LineSource.left c.next_line.new.self) old c.next_line.new.line.items next

pub returns-in-Err-Memory-clause-done : goal.returns-in-Err-Memory-clause-done
returns-in-Err-Memory-clause-done g c =
    let old = streams_of (g.L.LineSource.left c.args.source.now) (g.S.RowSink.taken c.args.sink.now) (g.S.RowSink.failures c.args.sink.now) (g.T.RowSink.taken c.args.told.now) (g.T.RowSink.failures c.args.told.now) in
    next_lacking c.args.rules.now (shown_form c.args.form.now) c.args.path.now c.args.number (g.L.LineSource.left c.next_line.new.self) old
