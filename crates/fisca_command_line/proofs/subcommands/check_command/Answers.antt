use Rattle.std.proofs.Common.{◌∙◌, ◌||◌, ap₂, rules}
use Rattle.std.proofs.lemmas.Result.{IfOk-weaker}
use Rattle.clap.specs.Simple.{with_rule}
use Rattle.fisca_command_line.proofs.subcommands.check_command.Goals as goal

pub returns-clause-app : goal.returns-clause-app
returns-clause-app c =
    let one = c.in_ok-arg.ensures.shape (search rules) ∙ ap₂ with_rule c.check_page.ensures.app c.required-rules.ensures.rule in
    IfOk-weaker c.arg-2.result _ _ (λ command h. h.shape (search rules) ∙ ap₂ with_rule one c.reform_option-reform.ensures.rule) c.arg-2.ensures

pub returns-clause-local : goal.returns-clause-local
returns-clause-local c =
    let one = c.in_ok-arg.ensures.globals ∙ ap₂ ◌||◌ c.check_page.ensures.local c.required-rules.ensures.local in
    IfOk-weaker c.arg-2.result _ _ (λ command h. h.globals ∙ ap₂ ◌||◌ one c.reform_option-reform.ensures.local) c.arg-2.ensures
