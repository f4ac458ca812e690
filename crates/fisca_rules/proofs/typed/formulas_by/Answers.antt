use Rattle.std.proofs.Common.{arith, ◌∙◌, sym, ap, suc, ◌<◌, ◌≤◌, ◌∷◌, map, drop, drop-cons, length}
use Rattle.std.proofs.Math.ListN.{drop_of_length-le}
use Rattle.std.proofs.lemmas.Result.{err_from_is_err_and}
use Rattle.fisca_rules.specs.Steps.Rules.{dated_of}
use Rattle.fisca_rules.specs.Views.{dated}
use Rattle.fisca_rules.proofs.Lined.{all_made, formulas, refused}
use Rattle.fisca_rules.proofs.typed.formulas_by.Goals as goal
use Rattle.fisca_ast.specs.ModuleViews.{formula_view}
use Rattle.fisca_symbols.specs.Known.{tables as known}

pub returns-clause-formulas : goal.returns-clause-formulas
returns-clause-formulas c =
    let l = c.loop-line in
    let items = c.lines-line-items.result.now in
    let all : length items ≤ l.line-index = omega (arith, c.loop-line-test.false, l.auto.line-index-end) in
    all_made (dated_of (known c.args.tables.now) c.args.declaration.now.module c.args.variable.now.entity c.args.value_type)
    (map dated l.made.items) (drop l.line-index items) (map formula_view c.args.declaration.now.formulas) l.invariant.0 (drop_of_length-le items all)

pub returns-in_err-dated_of-in-Formula-clause-formulas : goal.returns-in_err-dated_of-in-Formula-clause-formulas
returns-in_err-dated_of-in-Formula-clause-formulas c =
    let l = c.loop-line in
    let items = c.lines-line-items.result.now in
    let told = err_from_is_err_and c.from_residual.result c.from_residual.ensures.1 in
    let inside : l.line-index < length items = omega (arith, c.loop-line-test.true, l.auto.line-index-end) in
    let cut = drop-cons items l.line-index c.line-item.result inside ∙ ap (λ a. a ∷ drop (suc l.line-index) items) (sym c.line-item.is ∙ c.in-Formula.is) in
    rw (told.1, told.2) (λ h. refused (dated_of (known c.args.tables.now) c.args.declaration.now.module c.args.variable.now.entity c.args.value_type) (map dated l.made.items) _
    (formula_view c.deref.result.now) (drop l.line-index items) (drop (suc l.line-index) items) (map formula_view c.args.declaration.now.formulas) l.invariant.0 (ap formulas cut ∙ ap (λ g. formula_view g ∷ formulas (drop (suc l.line-index) items)) (sym c.deref.ensures))
    (c.in_err-dated_of-in-Formula.ensures.formula h))
