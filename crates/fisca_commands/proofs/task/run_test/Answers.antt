use Rattle.fisca_rule_files.specs.Refusal.{paths_of}
use Rattle.fisca_commands.proofs.Endings.{of_tests}
use Rattle.fisca_commands.proofs.task.run_test.Goals as goal

pub returns-clause-failures : goal.returns-clause-failures
returns-clause-failures g c =
    of_tests (paths_of c.args.path.now c.args.told_paths.now) c.test_rules-answer.result c.judged_of.result (g.S.RowSink.failures c.args.sink.now) (g.S.RowSink.failures c.test_rules-answer.new.sink)
    c.judged_of.ensures c.test_rules-answer.ensures.failures
