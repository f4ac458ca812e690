use Rattle.std.proofs.Common.{[], ◌∙◌, Some, option_map, subst}
use Rattle.fisca_commands.specs.Ending.{IsTestEnding}
use Rattle.fisca_rule_files.specs.Refusal.{paths_of}
use Rattle.fisca_web.proofs.Told.{begun, said}
use Rattle.fisca_web.proofs.answer_test.Goals as goal

pub returns : goal.returns
returns c done = record {
  written = c.run_test-ending.new.sink.bytes;
  outcome = c.run_test-ending.result;
  ending =
      begun (IsTestEnding c.args.rules.now (paths_of c.args.file.now.path []) c.args.file.now.text (option_map (λ text. text.now) c.args.task.now.name)) c.new-sink.result.bytes _ _ c.new-sink.ensures.bytes
      (subst (λ text. IsTestEnding c.args.rules.now (paths_of c.args.file.now.path []) text (option_map (λ name. name.now) c.args.task.now.name) (Some c.new-sink.result.bytes) (Some c.run_test-ending.new.sink.bytes) c.run_test-ending.result) c.text-text.ensures
      (subst (λ path. IsTestEnding c.args.rules.now (paths_of path []) c.text-text.result.now (option_map (λ name. name.now) c.args.task.now.name) (Some c.new-sink.result.bytes) (Some c.run_test-ending.new.sink.bytes) c.run_test-ending.result) c.path-path.ensures
      c.run_test-ending.ensures.ending));
  says = said _ c.as_bytes-told.result.now c.status.result _ _ c.run_test-ending.result (c.as_bytes-told.ensures.value ∙ c.line_of.ensures) c.status.ensures (c.tell.ensures done);
}
