use Rattle.std.proofs.Common.{◌∙◌, ◌||◌, ap, ap₂, rules}
use Rattle.std.proofs.lemmas.Result.{IfOk-weaker}
use Rattle.clap.specs.Simple.{with_rule}
use Rattle.fisca_command_line.specs.CommandLine.{with_files, with_form, with_range}
use Rattle.fisca_command_line.proofs.subcommands.run_command.Goals as goal

pub returns-clause-app : goal.returns-clause-app
returns-clause-app c =
    let one = c.in_ok-command.ensures.app ∙ ap with_files c.run_page.ensures.app in
    let two = c.in_ok-command-2.ensures.app ∙ ap with_range one in
    let three = c.in_ok-with_form.ensures.app ∙ ap with_form two in
    IfOk-weaker c.arg.result _ _ (λ command h. h.shape (search rules) ∙ ap₂ with_rule three c.keep_going_option-going.ensures.rule) c.arg.ensures

pub returns-clause-local : goal.returns-clause-local
returns-clause-local c =
    IfOk-weaker c.arg.result _ _ (λ command h. h.globals ∙ ap₂ ◌||◌ c.in_ok-with_form.ensures.local c.keep_going_option-going.ensures.local) c.arg.ensures
