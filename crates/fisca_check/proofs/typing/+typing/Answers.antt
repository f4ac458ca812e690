use Rattle.std.proofs.Common.{rules, arith, ◌≡◌, ◌∙◌, sym, ap, Some, None, take}
use Rattle.std.specs.Prelude.{map}
use Rattle.fisca_ast.specs.Tree.{applied, attribute, binary, bracketed, compare, keyword, positional}
use Rattle.fisca_ast.specs.Views.{argument_view, series_view, tree}
use Rattle.fisca_ast.specs.declared.tree.Arguments.{the_lemmas as all_lemmas}
use Rattle.fisca_ir.specs.Views.{thing}
use Rattle.fisca_num.specs.Results.{and_then}
use Rattle.fisca_typing.specs.Operations.{comparison_of, operated, operation}
use Rattle.fisca_typing.specs.Typing.{all_given, attribute_of, given, given_of, in_brackets, thing_of, with_suffix}
use Rattle.fisca_check.specs.Views.{names}
use Rattle.fisca_check.proofs.Elements.{series_given, take_all}
use Rattle.fisca_check.proofs.Outcomes.{gives_same}
use Rattle.fisca_check.proofs.typing.+typing.Goals as goal

pub all_given-returns-clause-thing : goal.all_given-returns-clause-thing
all_given-returns-clause-thing t c =
    let n = names c.args.names.now in
    let items = c.args.items.now in
    let whole : take c.loop-item.item-index items ≡ items = take_all items c.loop-item.item-index (omega (arith, c.loop-item-test.false)) in
    λ m. c.loop-item.invariant.0 ∙ ap (λ xs. map (given_of n) (map argument_view xs)) whole ∙ series_given n m (map argument_view items)

pub given_of-returns-in_ok-if_known-in-Positional-clause-thing : goal.given_of-returns-in_ok-if_known-in-Positional-clause-thing
given_of-returns-in_ok-if_known-in-Positional-clause-thing t c =
    let n = names c.args.names.now in
    let value = c.in-Positional.value in
    let told = c.in_ok-if_known-in-Positional.ensures.known (thing_of n (tree value)) c.thing_of.ensures.thing in
    let seen : argument_view c.args.argument.now ≡ positional (tree value) = ap argument_view c.in-Positional.is ∙ search (all_lemmas, rules) in
    ap (λ o. given None (tree value) o) told ∙ ap (given_of n) (sym seen)

pub given_of-returns-in_ok-if_known-in-Keyword-clause-thing : goal.given_of-returns-in_ok-if_known-in-Keyword-clause-thing
given_of-returns-in_ok-if_known-in-Keyword-clause-thing t c =
    let n = names c.args.names.now in
    let value = c.deref-in-Keyword.result.now in
    let told = c.in_ok-if_known-in-Keyword.ensures.known (thing_of n (tree value)) c.thing_of-in-Keyword.ensures.thing in
    let seen : argument_view c.args.argument.now ≡ keyword c.in-Keyword.keyword (tree c.in-Keyword.value.value) = ap argument_view c.in-Keyword.is ∙ search (all_lemmas, rules) in
    let held = ap (λ e. keyword c.in-Keyword.keyword (tree e)) (sym c.deref-in-Keyword.ensures) in
    let kept = c.deref.ensures ∙ sym c.deref-in-Keyword.ensures in
    (λ i. given (Some (c.as_bytes.ensures i)) (tree (kept i)) (told i)) ∙ ap (given_of n) (sym (seen ∙ held))

pub thing_of-returns-in-Bracketed-clause-thing : goal.thing_of-returns-in-Bracketed-clause-thing
thing_of-returns-in-Bracketed-clause-thing t c =
    let n = names c.args.names.now in
    let seen : tree c.args.tree.now ≡ bracketed c.in-Bracketed.bracket (series_view c.in-Bracketed.inside.value) = ap tree c.in-Bracketed.is ∙ search (all_lemmas, rules) in
    gives_same thing _ _ _ c.bracketed.ensures.thing
    (ap (thing_of n) seen ∙ ap (λ x. in_brackets c.in-Bracketed.bracket (all_given n (series_view x))) (sym c.deref.ensures))

pub thing_of-returns-in-Attribute-clause-thing : goal.thing_of-returns-in-Attribute-clause-thing
thing_of-returns-in-Attribute-clause-thing t c =
    let n = names c.args.names.now in
    let x = c.in-Attribute.access.value in
    let seen : tree c.args.tree.now ≡ attribute (tree x.front) x.name = ap tree c.in-Attribute.is ∙ search (all_lemmas, rules) in
    let front = ap (λ y. y.front) (sym c.deref-in-Attribute.ensures) in
    let name = sym (c.as_str-in-Attribute.ensures ∙ ap (λ y. y.name) c.deref-in-Attribute-2.ensures) in
    gives_same thing _ _ _ c.attribute.ensures.thing (ap (thing_of n) seen ∙ (λ i. and_then (thing_of n (tree (front i))) (attribute_of n (name i))))

pub thing_of-returns-in-Applied-clause-thing : goal.thing_of-returns-in-Applied-clause-thing
thing_of-returns-in-Applied-clause-thing t c =
    let n = names c.args.names.now in
    let x = c.in-Applied.application.value in
    let seen : tree c.args.tree.now ≡ applied c.in-Applied.suffix (tree x.front) (series_view x.behind) = ap tree c.in-Applied.is ∙ search (all_lemmas, rules) in
    let front = ap (λ y. y.front) (sym c.deref-in-Applied.ensures) in
    let behind = ap (λ y. y.behind) (sym c.deref-in-Applied-2.ensures) in
    gives_same thing _ _ _ (c.applied.ensures.thing _ c.thing_of-before.ensures.thing)
    (ap (thing_of n) seen ∙ (λ i. and_then (thing_of n (tree (front i))) (λ g. with_suffix n c.in-Applied.suffix g (all_given n (series_view (behind i))))))

pub thing_of-returns-in-Binary-clause-thing : goal.thing_of-returns-in-Binary-clause-thing
thing_of-returns-in-Binary-clause-thing t c =
    let n = names c.args.names.now in
    let x = c.in-Binary.operands.value in
    let seen : tree c.args.tree.now ≡ binary c.in-Binary.operator (tree x.left) (tree x.right) = ap tree c.in-Binary.is ∙ search (all_lemmas, rules) in
    let left = ap (λ y. y.left) (sym c.deref-in-Binary.ensures) in
    let right = ap (λ y. y.right) (sym c.deref-in-Binary-2.ensures) in
    gives_same thing _ _ _ (c.of_two.ensures.thing _ c.thing_of-first.ensures.thing)
    (ap (thing_of n) seen ∙ (λ i. and_then (thing_of n (tree (left i))) (λ y. and_then (thing_of n (tree (right i))) (operated (operation c.in-Binary.operator) y))))

pub thing_of-returns-in-Compare-clause-thing : goal.thing_of-returns-in-Compare-clause-thing
thing_of-returns-in-Compare-clause-thing t c =
    let n = names c.args.names.now in
    let x = c.in-Compare.operands.value in
    let seen : tree c.args.tree.now ≡ compare c.in-Compare.comparison (tree x.left) (tree x.right) = ap tree c.in-Compare.is ∙ search (all_lemmas, rules) in
    let left = ap (λ y. y.left) (sym c.deref-in-Compare.ensures) in
    let right = ap (λ y. y.right) (sym c.deref-in-Compare-2.ensures) in
    gives_same thing _ _ _ (c.of_two-in-Compare.ensures.thing _ c.thing_of-first-in-Compare.ensures.thing)
    (ap (thing_of n) seen ∙ (λ i. and_then (thing_of n (tree (left i))) (λ y. and_then (thing_of n (tree (right i))) (operated (comparison_of c.in-Compare.comparison) y))))
