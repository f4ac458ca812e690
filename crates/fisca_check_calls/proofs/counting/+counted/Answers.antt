use Rattle.std.proofs.Common.{rules, arith, ◌≡◌, ◌∙◌, sym, ap, [], drop, map}
use Rattle.std.proofs.Math.ListN.{drop_of_length-le}
use Rattle.fisca_ast.specs.Tree.{applied}
use Rattle.fisca_ast.specs.declared.tree.Arguments.{the_lemmas as all_lemmas}
use Rattle.fisca_ast.specs.Views.{argument_view, series_view, tree}
use Rattle.fisca_typing.specs.Sizes.{beside, capped, size_all, size_of}
use Rattle.fisca_check_calls.specs.Counts.{size}
use Rattle.fisca_check_calls.specs.Locals.{sizes}
use Rattle.fisca_check_calls.proofs.Counted.{above_of, all_in, beside_of, last_counted}
use Rattle.fisca_check_calls.proofs.counting.+counted.Goals as goal

pub size_all-returns : goal.size_all-returns
size_all-returns t c =
    let ls = sizes c.args.locals.now in
    let items = c.args.items.now in
    let found = size c.loop-item.found in
    let after : drop c.loop-item.item-index items ≡ [] = drop_of_length-le items (omega (arith, c.loop-item-test.false)) in
    let whole = c.loop-item.invariant.0 ∙ ap (λ xs. capped (beside found (all_in ls (map argument_view xs)))) after in
    λ m. last_counted ls m (map argument_view items) found whole c.loop-item.invariant.1

pub size_of-returns-in-Applied : goal.size_of-returns-in-Applied
size_of-returns-in-Applied t c =
    let ls = sizes c.args.locals.now in
    let x = c.in-Applied.application.value in
    let front : size c.size_of-first.result ≡ capped (size_of ls (tree x.front)) = search rules in
    let behind : size c.size_inside-in-Applied.result ≡ capped (size_all ls (series_view x.behind)) = search rules in
    let both = beside_of _ _ _ _ _ c.beside.ensures front behind in
    let whole = above_of _ _ _ c.above-in-Applied.ensures both in
    let seen : tree c.args.tree.now ≡ applied c.in-Applied.field-0 (tree x.front) (series_view x.behind) =
    ap tree c.in-Applied.is ∙ search (all_lemmas, rules) in
    whole ∙ ap (λ e. capped (size_of ls e)) (sym seen)
