use Rattle.std.proofs.Common.{rules, ◌≡◌, ◌∙◌, sym, ap}
use Rattle.fisca_ast.specs.Tree.{applied}
use Rattle.fisca_ast.specs.Views.{series_view, tree}
use Rattle.fisca_ast.specs.declared.tree.Arguments.{the_lemmas as all_lemmas}
use Rattle.fisca_ast.specs.declared.tree.Suffix.TheVariants as suffix
use Rattle.fisca_parser.specs.Steps.Forms.{builds_entity, is_the_name}
use Rattle.fisca_parser.proofs.forms.is_entity.Goals as goal

pub returns-in-Applied-Call-default : goal.returns-in-Applied-Call-default
returns-in-Applied-Call-default c =
    let x = c.in-Applied-Call-default.call.value in
    let seen : tree c.bare.result.now ≡ applied suffix.Call (tree x.front) (series_view x.behind) = ap tree c.in-Applied-Call-default.is ∙ search (all_lemmas, rules) in
    let front = ap (λ y. y.front) c.deref.ensures in
    c.is_the_name.ensures ∙ (λ i. is_the_name (c.as_slice.ensures i) (tree (front i))) ∙ ap builds_entity (sym seen ∙ c.bare.ensures)
