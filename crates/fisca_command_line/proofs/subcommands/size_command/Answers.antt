use Rattle.std.proofs.Common.{◌∙◌, ap}
use Rattle.std.proofs.lemmas.Result.{IfOk-weaker}
use Rattle.fisca_command_line.specs.CommandLine.{with_files}
use Rattle.fisca_command_line.proofs.subcommands.size_command.Goals as goal

pub returns-clause-app : goal.returns-clause-app
returns-clause-app c = IfOk-weaker c.with_files.result _ _ (λ command made. made ∙ ap with_files c.size_page.ensures.app) c.with_files.ensures.app
