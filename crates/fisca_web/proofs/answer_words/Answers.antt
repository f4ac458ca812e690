use Rattle.std.proofs.Common.{map, string_bytes, subst}
use Rattle.clap.specs.Simple.{subcommand_of}
use Rattle.fisca_command_line.specs.CommandLine.{fisca_app}
use Rattle.fisca_command_line.specs.Work.{IsWorkOf}
use Rattle.fisca_command_line.specs.declared.task.Work.TheVariants as work
use Rattle.fisca_web.proofs.answer_words.Goals as goal

pub returns-in-Ok-Task : goal.returns-in-Ok-Task
returns-in-Ok-Task c done = (
  work.Task c.in-Ok-Task.task,
  subst (IsWorkOf (subcommand_of fisca_app (map (λ word. string_bytes word) c.args.words.now))) c.in-Ok-Task.field-0-is c.in-Ok-Task.ensures.work,
  c.answer_task.ensures done,
)

pub returns-in-Ok-Tests : goal.returns-in-Ok-Tests
returns-in-Ok-Tests c done = (
  work.Tests c.in-Ok-Tests.task,
  subst (IsWorkOf (subcommand_of fisca_app (map (λ word. string_bytes word) c.args.words.now))) c.in-Ok-Tests.field-0-is c.in-Ok-Tests.ensures.work,
  c.answer_tests.ensures done,
)

pub returns-in-Ok-Lines : goal.returns-in-Ok-Lines
returns-in-Ok-Lines c done = (
  work.Lines c.in-Ok-Lines.task,
  subst (IsWorkOf (subcommand_of fisca_app (map (λ word. string_bytes word) c.args.words.now))) c.in-Ok-Lines.field-0-is c.in-Ok-Lines.ensures.work,
  c.answer_lines.ensures done,
)
