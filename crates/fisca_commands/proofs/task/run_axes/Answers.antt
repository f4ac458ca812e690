use Rattle.std.proofs.Common.{[], false}
use Rattle.fisca_rule_files.specs.Refusal.{of_file}
use Rattle.fisca_grid_run.specs.Forms.{is_table}
use Rattle.fisca_commands.proofs.Endings.{counted}
use Rattle.fisca_commands.proofs.task.run_axes.Goals as goal

pub returns-clause-failures : goal.returns-clause-failures
returns-clause-failures g c =
    counted (of_file []) false (is_table c.args.options.now.form) (g.S.RowSink.taken c.axes_words-answer.new.sink) (g.S.RowSink.taken c.end_run.new.sink) c.axes_words-answer.result c.end_run.result
    (g.S.RowSink.failures c.args.sink.now) (g.S.RowSink.failures c.axes_words-answer.new.sink) (g.S.RowSink.failures c.end_run.new.sink)
    c.end_run.ensures.ending c.axes_words-answer.ensures.failures c.end_run.ensures.failures
