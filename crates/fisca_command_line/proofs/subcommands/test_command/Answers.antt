use Rattle.std.proofs.Common.{◌∙◌, ◌||◌, ap₂, rules}
use Rattle.std.proofs.lemmas.Result.{IfOk-weaker}
use Rattle.clap.specs.Simple.{with_rule}
use Rattle.fisca_command_line.proofs.subcommands.test_command.Goals as goal

pub returns-clause-app : goal.returns-clause-app
returns-clause-app c =
    let one = c.in_ok-arg.ensures.shape (search rules) ∙ ap₂ with_rule c.test_page.ensures.app c.required-rules.ensures.rule in
    let two = c.in_ok-arg-2.ensures.shape (search rules) ∙ ap₂ with_rule one c.tests_argument-tests.ensures.rule in
    let three = c.in_ok-arg-3.ensures.shape (search rules) ∙ ap₂ with_rule two c.name_option-name.ensures.rule in
    IfOk-weaker c.arg-4.result _ _ (λ command h. h.shape (search rules) ∙ ap₂ with_rule three c.reform_option-reform.ensures.rule) c.arg-4.ensures

pub returns-clause-local : goal.returns-clause-local
returns-clause-local c =
    let one = c.in_ok-arg.ensures.globals ∙ ap₂ ◌||◌ c.test_page.ensures.local c.required-rules.ensures.local in
    let two = c.in_ok-arg-2.ensures.globals ∙ ap₂ ◌||◌ one c.tests_argument-tests.ensures.local in
    let three = c.in_ok-arg-3.ensures.globals ∙ ap₂ ◌||◌ two c.name_option-name.ensures.local in
    IfOk-weaker c.arg-4.result _ _ (λ command h. h.globals ∙ ap₂ ◌||◌ three c.reform_option-reform.ensures.local) c.arg-4.ensures
