use Rattle.std.proofs.Common.{arith, ◌≡◌, ◌<◌, ◌+◌, ◌∙◌, sym, ap, suc, add-one, List, [], ◌∷◌, drop, drop-cons, get_or, length}
use Rattle.std.proofs.Math.ListN.{drop_of_length-le}
use Rattle.std.specs.Prelude.{map}
use Rattle.fisca_ast.specs.Views.{tree}
use Rattle.fisca_ast.specs.declared.module.Assignment.{Assignment}
use Rattle.fisca_typing.specs.Formulas.{formula_from}
use Rattle.fisca_check.specs.Formulas.{assigned, formula_view, scope}
use Rattle.fisca_check.proofs.Behind.{formula_next, tells_same}
use Rattle.fisca_check.proofs.formulas.formula_of.Goals as goal

pub returns-clause-formula : goal.returns-clause-formula
returns-clause-formula c =
    let l = c.loop-place in
    let items = c.args.locals.now in
    let all : l.place ≡ length items = omega (arith, c.loop-place-test.false, l.auto.place-end) in
    let after : drop l.place items ≡ [] = drop_of_length-le items (omega (arith, all)) in
    tells_same formula_view _ _ _ c.made_of.ensures.formula (l.invariant.0 ∙ (λ i. formula_from (all i) (scope l.scope) c.args.value_type (map assigned (after i)) (tree c.args.returned.now)))

pub loop-place-preserved : goal.loop-place-preserved
loop-place-preserved c =
    let items = c.args.locals.now in
    let i = c.loop-place.place in
    let item : Assignment = c.index-locals-place.result in
    let inside : i < length items = c.loop-place-test.true in
    let cut : drop i items ≡ get_or items i item ∷ drop (suc i) items = drop-cons items i item inside in
    let same : get_or items i item ≡ item = sym c.index-locals-place.is in
    let whole = c.loop-place.invariant.0
    ∙ ap (λ (ls : List Assignment). formula_from i (scope c.loop-place.scope) c.args.value_type (map assigned ls) (tree c.args.returned.now)) (cut ∙ ap (λ (a : Assignment). a ∷ drop (suc i) items) same) in (
      formula_next _ i (scope c.loop-place.scope) (scope c.in_ok-scope.scope) c.args.value_type (assigned item) (map assigned (drop (suc i) items)) (tree c.args.returned.now) whole c.in_ok-scope.ensures.scope
          ∙ ap (λ k. formula_from (i + 1) (scope c.in_ok-scope.scope) c.args.value_type (map assigned (drop k items)) (tree c.args.returned.now)) (sym (add-one i)),
      c.in_ok-scope.ensures.same ∙ c.loop-place.invariant.1,
      c.in_ok-scope.ensures.same ∙ c.loop-place.invariant.2 ∙ sym c.in_ok-scope.ensures.tables,
    )
