use Rattle.std.proofs.Common.{◌∙◌, [], cond, ◌==◌, inl, inr, Ok, Err, ap, refl, sym}
use Rattle.std.proofs.KnownBytes.{Keeps-refl}
use Rattle.fisca_rule_files.specs.Refusal.{of_file, paths_of}
use Rattle.fisca_writer.specs.Steps.Sink.{one_more}
use Rattle.fisca_commands.proofs.Endings.{of_tests}
use Rattle.fisca_grid_run.proofs.Telling.{files_unwritten}
use Rattle.fisca_commands.proofs.Tested.{ready}
use Rattle.fisca_commands.proofs.many_tests.run_tests.Goals as goal

pub returns-in-Err-clause-ending : goal.returns-in-Err-clause-ending
returns-in-Err-clause-ending g c = inl (c.in-Err.refusal, c.in-Err.ensures.err, c.refused.ensures, Keeps-refl (g.S.RowSink.taken c.args.sink.now))

pub returns-in-Err-clause-failures : goal.returns-in-Err-clause-failures
returns-in-Err-clause-failures g c =
    let failures = g.S.RowSink.failures c.args.sink.now in
    of_tests (paths_of [] c.args.told_paths.now) (Err c.in-Err.refusal) c.refused.result failures failures c.refused.ensures
    (ap (λ failed. cond failed (one_more failures) failures) (sym (files_unwritten c.args.files.now c.in-Err.refusal c.in-Err.ensures.err)))

pub test_files-requires : goal.test_files-requires
test_files-requires g c line n t read =
    ready c.args.files.now c.in-Ok.rules c.rule_sets_are_safe.ensures c.inputs_fit.ensures c.in-Ok.ensures.ok t.situation
    (c.situations_are_read.ensures c.in-Ok.rules.tables line n t read)

pub returns-in-Ok-test_files-clause-ending : goal.returns-in-Ok-test_files-clause-ending
returns-in-Ok-test_files-clause-ending g c =
    inr (
      c.in-Ok.rules,
      c.in-Ok.ensures.ok,
      g.S.RowSink.taken c.test_files.new.sink,
      Ok c.in-Ok-test_files.total,
      c.in-Ok-test_files.ensures.answer,
      (c.write_total-answer.result, c.write_total-answer.ensures.answer, c.judged_of.ensures),
    )

pub returns-in-Ok-test_files-clause-failures : goal.returns-in-Ok-test_files-clause-failures
returns-in-Ok-test_files-clause-failures g c =
    let between = g.S.RowSink.failures c.test_files.new.sink in
    let count = of_tests (of_file []) c.write_total-answer.result c.judged_of.result between (g.S.RowSink.failures c.write_total-answer.new.sink) c.judged_of.ensures c.write_total-answer.ensures.failures in
    count ∙ ap (λ n. cond (c.judged_of.result.status == 5) (one_more n) n) c.in-Ok-test_files.ensures.failures

pub returns-clause-ending : goal.returns-clause-ending
returns-clause-ending g c =
    inr (
      c.in-Ok.rules,
      c.in-Ok.ensures.ok,
      g.S.RowSink.taken c.test_files.new.sink,
      Err c.in-Err-test_files.ending,
      c.in-Err-test_files.ensures.answer,
      (refl, Keeps-refl (g.S.RowSink.taken c.test_files.new.sink)),
    )
