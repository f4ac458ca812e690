use Rattle.std.proofs.Common.{◌∙◌, ◌||◌, ap, ap₂, rules}
use Rattle.std.proofs.lemmas.Result.{IfOk-weaker}
use Rattle.clap.specs.Simple.{with_rule}
use Rattle.fisca_command_line.specs.CommandLine.{with_files, with_form}
use Rattle.fisca_command_line.proofs.subcommands.calc_command.Goals as goal

pub returns-clause-app : goal.returns-clause-app
returns-clause-app c =
    let one = c.in_ok-command.ensures.app ∙ ap with_files c.calc_page.ensures.app in
    let two = c.in_ok-with_form.ensures.app ∙ ap with_form one in
    IfOk-weaker c.arg.result _ _ (λ command h. h.shape (search rules) ∙ ap₂ with_rule two c.lines_option-lines.ensures.rule) c.arg.ensures

pub returns-clause-local : goal.returns-clause-local
returns-clause-local c =
    IfOk-weaker c.arg.result _ _ (λ command h. h.globals ∙ ap₂ ◌||◌ c.in_ok-with_form.ensures.local c.lines_option-lines.ensures.local) c.arg.ensures
