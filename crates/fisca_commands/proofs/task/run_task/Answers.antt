use Rattle.std.proofs.Common.{map, option_map, string_bytes, sym, subst}
use Rattle.fisca_commands.specs.Ending.{IsAxesEnding, IsExplainEnding, IsTaskEnding}
use Rattle.fisca_rule_files.specs.Refusal.{paths_of}
use Rattle.fisca_command_line.specs.declared.task.Task.{Task}
use Rattle.fisca_commands.proofs.task.run_task.Goals as goal

pub returns-in-Calc-clause-ending : goal.returns-in-Calc-clause-ending
returns-in-Calc-clause-ending g c =
    subst (λ (task : Task). IsTaskEnding task c.args.files.now c.args.told_paths.now c.args.text.now (g.S.RowSink.taken c.args.sink.now) (g.S.RowSink.taken c.run_calc.new.sink) c.run_calc.result) (sym c.in-Calc.is)
    c.run_calc.ensures.ending

pub returns-in-List-clause-ending : goal.returns-in-List-clause-ending
returns-in-List-clause-ending g c =
    subst (λ (task : Task). IsTaskEnding task c.args.files.now c.args.told_paths.now c.args.text.now (g.S.RowSink.taken c.args.sink.now) (g.S.RowSink.taken c.run_list.new.sink) c.run_list.result) (sym c.in-List.is)
    c.run_list.ensures.ending

pub returns-in-Explain-clause-ending : goal.returns-in-Explain-clause-ending
returns-in-Explain-clause-ending g c =
    subst (λ (task : Task). IsTaskEnding task c.args.files.now c.args.told_paths.now c.args.text.now (g.S.RowSink.taken c.args.sink.now) (g.S.RowSink.taken c.run_explain.new.sink) c.run_explain.result) (sym c.in-Explain.is)
    (subst (λ words. IsExplainEnding c.args.files.now (paths_of c.in-Explain.file.now c.args.told_paths.now) c.args.text.now (map (λ word. string_bytes word) words) c.in-Explain.depth c.in-Explain.format (g.S.RowSink.taken c.args.sink.now) (g.S.RowSink.taken c.run_explain.new.sink) c.run_explain.result)
    c.as_slice.ensures.value c.run_explain.ensures.ending)

pub returns-in-Axes-clause-ending : goal.returns-in-Axes-clause-ending
returns-in-Axes-clause-ending g c =
    subst (λ (task : Task). IsTaskEnding task c.args.files.now c.args.told_paths.now c.args.text.now (g.S.RowSink.taken c.args.sink.now) (g.S.RowSink.taken c.run_axes.new.sink) c.run_axes.result) (sym c.in-Axes.is)
    (subst (λ words. IsAxesEnding (map (λ word. string_bytes word) words) (option_map (λ text. text.now) c.in-Axes.keep) c.in-Axes.options (g.S.RowSink.taken c.args.sink.now) (g.S.RowSink.taken c.run_axes.new.sink) c.run_axes.result)
    c.as_slice-in-Axes.ensures.value c.run_axes.ensures.ending)
