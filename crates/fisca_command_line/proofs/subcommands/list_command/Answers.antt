use Rattle.std.proofs.Common.{◌∙◌, ◌||◌, ap, ap₂, rules}
use Rattle.std.proofs.lemmas.Result.{IfOk-weaker}
use Rattle.clap.specs.Simple.{with_rule}
use Rattle.fisca_command_line.specs.CommandLine.{with_table}
use Rattle.fisca_command_line.proofs.subcommands.list_command.Goals as goal

pub with_table-requires : goal.with_table-requires
with_table-requires c =
    let one = c.in_ok-arg.ensures.globals ∙ ap₂ ◌||◌ c.list_page.ensures.local c.required-rules.ensures.local in
    c.in_ok-arg-2.ensures.globals ∙ ap₂ ◌||◌ one c.reform_option-reform.ensures.local

pub returns-clause-app : goal.returns-clause-app
returns-clause-app c =
    let one = c.in_ok-arg.ensures.shape (search rules) ∙ ap₂ with_rule c.list_page.ensures.app c.required-rules.ensures.rule in
    let two = c.in_ok-arg-2.ensures.shape (search rules) ∙ ap₂ with_rule one c.reform_option-reform.ensures.rule in
    IfOk-weaker c.with_table.result _ _ (λ command made. made ∙ ap with_table two) c.with_table.ensures.app
