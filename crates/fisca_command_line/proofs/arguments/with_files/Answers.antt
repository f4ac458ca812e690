use Rattle.std.proofs.Common.{◌∙◌, ◌||◌, ap, ap₂}
use Rattle.std.proofs.lemmas.Result.{IfOk-weaker}
use Rattle.clap.specs.Simple.{app_of, with_rule}
use Rattle.fisca_command_line.proofs.arguments.with_files.Goals as goal

pub returns-clause-app : goal.returns-clause-app
returns-clause-app c =
    let one = c.in_ok-arg.ensures.shape c.required-rules.ensures.local ∙ ap (with_rule (app_of c.args.command)) c.required-rules.ensures.rule in
    let two = c.in_ok-arg-2.ensures.shape c.required-own.ensures.local ∙ ap₂ with_rule one c.required-own.ensures.rule in
    IfOk-weaker c.arg-3.result _ _ (λ command h. h.shape c.reform_option-reform.ensures.local ∙ ap₂ with_rule two c.reform_option-reform.ensures.rule) c.arg-3.ensures

pub returns-clause-local : goal.returns-clause-local
returns-clause-local c =
    let one = c.in_ok-arg.ensures.globals ∙ ap₂ ◌||◌ c.requires c.required-rules.ensures.local in
    let two = c.in_ok-arg-2.ensures.globals ∙ ap₂ ◌||◌ one c.required-own.ensures.local in
    IfOk-weaker c.arg-3.result _ _ (λ command h. h.globals ∙ ap₂ ◌||◌ two c.reform_option-reform.ensures.local) c.arg-3.ensures
