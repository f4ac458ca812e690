use Rattle.std.proofs.Common.{ap}
use Rattle.std.specs.Prelude.{Ok}
use Rattle.fisca_num.specs.Results.{and_then}
use Rattle.fisca_rules.specs.Steps.Rules.{dated_of, told_in}
use Rattle.fisca_ast.specs.ModuleViews.{formula_view}
use Rattle.fisca_rules.proofs.typed.dated_of.Goals as goal

pub returns-in-Ok-clause-formula : goal.returns-in-Ok-clause-formula
unfolding dated_of
returns-in-Ok-clause-formula c = ap (λ o. and_then (told_in c.args.place (formula_view c.args.formula.now) o) (λ g. Ok (record { start = c.args.formula.now.start; formula = g }))) c.in-Ok.ensures.formula

pub returns-in-Err-clause-formula : goal.returns-in-Err-clause-formula
unfolding dated_of
returns-in-Err-clause-formula c = λ h. rw c.told.ensures
    (ap (λ o. and_then (told_in c.args.place (formula_view c.args.formula.now) o) (λ g. Ok (record { start = c.args.formula.now.start; formula = g }))) (c.in-Err.ensures.formula (rw (← ap (λ f. f.kind) c.told.ensures) h)))
