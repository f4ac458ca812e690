use Rattle.std.proofs.Common.{◌∙◌, ◌||◌, ap, ap₂}
use Rattle.std.proofs.lemmas.Result.{IfOk-weaker}
use Rattle.clap.specs.Simple.{app_of, with_rule}
use Rattle.fisca_command_line.proofs.arguments.with_range.Goals as goal

pub returns-clause-app : goal.returns-clause-app
returns-clause-app c =
    let one = c.in_ok-arg.ensures.shape c.from_option-from.ensures.local ∙ ap (with_rule (app_of c.args.command)) c.from_option-from.ensures.rule in
    let two = c.in_ok-arg-2.ensures.shape c.to_option-to.ensures.local ∙ ap₂ with_rule one c.to_option-to.ensures.rule in
    let three = c.in_ok-arg-3.ensures.shape c.part_option-part.ensures.local ∙ ap₂ with_rule two c.part_option-part.ensures.rule in
    IfOk-weaker c.arg-4.result _ _ (λ command h. h.shape c.number-rows.ensures.local ∙ ap₂ with_rule three c.number-rows.ensures.rule) c.arg-4.ensures

pub returns-clause-local : goal.returns-clause-local
returns-clause-local c =
    let one = c.in_ok-arg.ensures.globals ∙ ap₂ ◌||◌ c.requires c.from_option-from.ensures.local in
    let two = c.in_ok-arg-2.ensures.globals ∙ ap₂ ◌||◌ one c.to_option-to.ensures.local in
    let three = c.in_ok-arg-3.ensures.globals ∙ ap₂ ◌||◌ two c.part_option-part.ensures.local in
    IfOk-weaker c.arg-4.result _ _ (λ command h. h.globals ∙ ap₂ ◌||◌ three c.number-rows.ensures.local) c.arg-4.ensures
