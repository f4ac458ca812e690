use Rattle.std.proofs.Common.{◌∙◌, ◌||◌, ap, ap₂, rules}
use Rattle.std.proofs.lemmas.Result.{IfOk-weaker}
use Rattle.clap.specs.Simple.{with_rule}
use Rattle.fisca_command_line.specs.CommandLine.{with_files}
use Rattle.fisca_command_line.proofs.subcommands.explain_command.Goals as goal

pub returns-clause-app : goal.returns-clause-app
returns-clause-app c =
    let one = c.in_ok-command.ensures.app ∙ ap with_files c.explain_page.ensures.app in
    let two = c.in_ok-arg.ensures.shape (search rules) ∙ ap₂ with_rule one c.column_argument-columns.ensures.rule in
    let three = c.in_ok-arg-2.ensures.shape (search rules) ∙ ap₂ with_rule two c.depth_option-depth.ensures.rule in
    IfOk-weaker c.arg-3.result _ _ (λ command h. h.shape (search rules) ∙ ap₂ with_rule three c.explain_format_option-format.ensures.rule) c.arg-3.ensures

pub returns-clause-local : goal.returns-clause-local
returns-clause-local c =
    let two = c.in_ok-arg.ensures.globals ∙ ap₂ ◌||◌ c.in_ok-command.ensures.local c.column_argument-columns.ensures.local in
    let three = c.in_ok-arg-2.ensures.globals ∙ ap₂ ◌||◌ two c.depth_option-depth.ensures.local in
    IfOk-weaker c.arg-3.result _ _ (λ command h. h.globals ∙ ap₂ ◌||◌ three c.explain_format_option-format.ensures.local) c.arg-3.ensures
