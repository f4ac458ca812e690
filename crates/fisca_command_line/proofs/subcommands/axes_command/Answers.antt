use Rattle.std.proofs.Common.{◌∙◌, ◌||◌, ap, ap₂, rules}
use Rattle.std.proofs.lemmas.Result.{IfOk-weaker}
use Rattle.clap.specs.Simple.{with_rule}
use Rattle.fisca_command_line.specs.CommandLine.{with_form, with_range}
use Rattle.fisca_command_line.proofs.subcommands.axes_command.Goals as goal

pub with_range-requires : goal.with_range-requires
with_range-requires c =
    let one = c.in_ok-arg.ensures.globals ∙ ap₂ ◌||◌ c.axes_page.ensures.local c.axis_argument-axis.ensures.local in
    c.in_ok-arg-2.ensures.globals ∙ ap₂ ◌||◌ one c.keep_option-keep.ensures.local

pub returns-clause-app : goal.returns-clause-app
returns-clause-app c =
    let one = c.in_ok-arg.ensures.shape (search rules) ∙ ap₂ with_rule c.axes_page.ensures.app c.axis_argument-axis.ensures.rule in
    let two = c.in_ok-arg-2.ensures.shape (search rules) ∙ ap₂ with_rule one c.keep_option-keep.ensures.rule in
    let three = c.in_ok-command.ensures.app ∙ ap with_range two in
    IfOk-weaker c.with_form.result _ _ (λ command made. made ∙ ap with_form three) c.with_form.ensures.app
