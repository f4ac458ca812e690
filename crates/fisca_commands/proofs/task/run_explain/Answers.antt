use Rattle.fisca_rule_files.specs.Refusal.{paths_of}
use Rattle.fisca_commands.proofs.Endings.{answered}
use Rattle.fisca_commands.proofs.task.run_explain.Goals as goal

pub returns-clause-ending : goal.returns-clause-ending
returns-clause-ending g c = (c.explain_rules-answer.result, c.explain_rules-answer.ensures.answer, c.ending_of.ensures)

pub returns-clause-failures : goal.returns-clause-failures
returns-clause-failures g c =
    answered (paths_of c.args.path.now c.args.told_paths.now) c.explain_rules-answer.result c.ending_of.result (g.S.RowSink.failures c.args.sink.now) (g.S.RowSink.failures c.explain_rules-answer.new.sink)
    c.ending_of.ensures c.explain_rules-answer.ensures.failures
