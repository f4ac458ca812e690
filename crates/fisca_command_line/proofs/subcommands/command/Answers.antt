use Rattle.std.proofs.Common.{◌∙◌, ◌||◌, ap, ap₂}
use Rattle.std.proofs.lemmas.Result.{IfOk-weaker}
use Rattle.clap.specs.Simple.{App, with_subcommand}
use Rattle.fisca_command_line.proofs.subcommands.command.Goals as goal

pub returns-clause-app : goal.returns-clause-app
returns-clause-app c =
    let one = c.in_ok-subcommand.ensures.shape c.in_ok-check.ensures.local ∙ ap₂ with_subcommand c.program_page.ensures.app (ap (λ (a : App). a.top) c.in_ok-check.ensures.app) in
    let two = c.in_ok-subcommand-2.ensures.shape c.in_ok-calc.ensures.local ∙ ap₂ with_subcommand one (ap (λ (a : App). a.top) c.in_ok-calc.ensures.app) in
    let three = c.in_ok-subcommand-3.ensures.shape c.in_ok-test.ensures.local ∙ ap₂ with_subcommand two (ap (λ (a : App). a.top) c.in_ok-test.ensures.app) in
    let four = c.in_ok-subcommand-4.ensures.shape c.in_ok-run.ensures.local ∙ ap₂ with_subcommand three (ap (λ (a : App). a.top) c.in_ok-run.ensures.app) in
    let five = c.in_ok-subcommand-5.ensures.shape c.in_ok-size.ensures.local ∙ ap₂ with_subcommand four (ap (λ (a : App). a.top) c.in_ok-size.ensures.app) in
    let six = c.in_ok-subcommand-6.ensures.shape c.in_ok-list.ensures.local ∙ ap₂ with_subcommand five (ap (λ (a : App). a.top) c.in_ok-list.ensures.app) in
    let seven = c.in_ok-subcommand-7.ensures.shape c.in_ok-explain.ensures.local ∙ ap₂ with_subcommand six (ap (λ (a : App). a.top) c.in_ok-explain.ensures.app) in
    IfOk-weaker c.subcommand-8.result _ _ (λ command h. h.shape c.in_ok-axes.ensures.local ∙ ap₂ with_subcommand seven (ap (λ (a : App). a.top) c.in_ok-axes.ensures.app)) c.subcommand-8.ensures

pub returns-clause-local : goal.returns-clause-local
returns-clause-local c =
    let one = c.in_ok-subcommand.ensures.globals ∙ ap₂ ◌||◌ c.program_page.ensures.local c.in_ok-check.ensures.local in
    let two = c.in_ok-subcommand-2.ensures.globals ∙ ap₂ ◌||◌ one c.in_ok-calc.ensures.local in
    let three = c.in_ok-subcommand-3.ensures.globals ∙ ap₂ ◌||◌ two c.in_ok-test.ensures.local in
    let four = c.in_ok-subcommand-4.ensures.globals ∙ ap₂ ◌||◌ three c.in_ok-run.ensures.local in
    let five = c.in_ok-subcommand-5.ensures.globals ∙ ap₂ ◌||◌ four c.in_ok-size.ensures.local in
    let six = c.in_ok-subcommand-6.ensures.globals ∙ ap₂ ◌||◌ five c.in_ok-list.ensures.local in
    let seven = c.in_ok-subcommand-7.ensures.globals ∙ ap₂ ◌||◌ six c.in_ok-explain.ensures.local in
    IfOk-weaker c.subcommand-8.result _ _ (λ command h. h.globals ∙ ap₂ ◌||◌ seven c.in_ok-axes.ensures.local) c.subcommand-8.ensures
