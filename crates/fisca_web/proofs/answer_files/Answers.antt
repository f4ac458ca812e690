use Rattle.std.proofs.Common.{[], ◌∙◌, option_map}
use Rattle.fisca_commands.specs.ManyTests.{IsTestsEnding}
use Rattle.fisca_web.proofs.Told.{begun, said}
use Rattle.fisca_web.proofs.answer_files.Goals as goal

pub returns : goal.returns
returns c done = record {
  written = c.run_tests-ending.new.sink.bytes;
  outcome = c.run_tests-ending.result;
  ending = begun (IsTestsEnding c.args.rules.now [] c.args.tests.now (option_map (λ text. text.now) c.args.task.now.name)) c.new-sink.result.bytes _ _ c.new-sink.ensures.bytes c.run_tests-ending.ensures.ending;
  says = said _ c.as_bytes-told.result.now c.status.result _ _ c.run_tests-ending.result (c.as_bytes-told.ensures.value ∙ c.line_of.ensures) c.status.ensures (c.tell.ensures done);
}
