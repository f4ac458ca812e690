use Rattle.std.proofs.Common.{◌∙◌, ◌||◌, ap, ap₂}
use Rattle.std.proofs.lemmas.Result.{IfOk-weaker}
use Rattle.clap.specs.Simple.{app_of, with_rule}
use Rattle.fisca_command_line.proofs.arguments.with_table.Goals as goal

pub returns-clause-app : goal.returns-clause-app
returns-clause-app c =
    let one = c.in_ok-arg.ensures.shape c.header_option-header.ensures.local ∙ ap (with_rule (app_of c.args.command)) c.header_option-header.ensures.rule in
    IfOk-weaker c.arg-2.result _ _ (λ command h. h.shape c.format_option-format.ensures.local ∙ ap₂ with_rule one c.format_option-format.ensures.rule) c.arg-2.ensures

pub returns-clause-local : goal.returns-clause-local
returns-clause-local c =
    let one = c.in_ok-arg.ensures.globals ∙ ap₂ ◌||◌ c.requires c.header_option-header.ensures.local in
    IfOk-weaker c.arg-2.result _ _ (λ command h. h.globals ∙ ap₂ ◌||◌ one c.format_option-format.ensures.local) c.arg-2.ensures
