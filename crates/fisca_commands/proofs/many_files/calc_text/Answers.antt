use Rattle.std.proofs.Common.{◌∙◌, Err, ap}
use Rattle.std.proofs.lemmas.Result.{err_from_is_err_and}
use Rattle.fisca_columns.specs.Views.{calc}
use Rattle.fisca_grid_run.specs.Forms.{shown_form}
use Rattle.fisca_commands.proofs.LineWritten.{text_calculated, text_refused}
use Rattle.fisca_commands.proofs.many_files.calc_text.Goals as goal

pub returns-in_err-file-clause-written : goal.returns-in_err-file-clause-written
returns-in_err-file-clause-written g c =
    let told = err_from_is_err_and c.from_residual.result c.from_residual.ensures.1 in
    text_refused c.args.rules.now (shown_form c.args.form.now) c.args.number c.args.text.now (g.S.RowSink.taken c.args.sink.now) c.from_residual.result c.in_err-file.field-0.0
    (told.1 ∙ ap Err told.2) c.in_err-file.ensures.err

pub write_values-requires : goal.write_values-requires
write_values-requires g c = c.requires c.args.text.now (calc c.in_ok-file.file) c.in_ok-file.ensures.ok

pub returns-clause-written : goal.returns-clause-written
returns-clause-written g c =
    text_calculated (record { rules = c.args.rules.now; asked = calc c.in_ok-file.file }) (shown_form c.args.form.now) c.args.number c.args.text.now
    (g.S.RowSink.taken c.args.sink.now) (g.S.RowSink.taken c.write_values.new.sink) c.write_values.result c.in_ok-file.ensures.ok c.write_values.ensures.answer
