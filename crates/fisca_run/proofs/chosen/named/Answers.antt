use Rattle.std.proofs.Common.{◌≡◌, ◌∙◌, ap, ap₂, option_map, Some, sym, rules}
use Rattle.std.proofs.lemmas.Fn.{filter_same}
use Rattle.fisca_run.proofs.NamedTests.{kept_items}
use Rattle.fisca_run.specs.Named.{is_named, named}
use Rattle.fisca_yaml.specs.Node.{list}
use Rattle.fisca_yaml.specs.Views.{items_view, node}
use Rattle.fisca_yaml.specs.declared.tree.Item.{Item}
use Rattle.fisca_yaml.specs.declared.tree.Tree.{the_lemmas}
use Rattle.fisca_yaml.specs.declared.tree.Tree.TheVariants as tree
use Rattle.fisca_run.proofs.chosen.named.Goals as goal

pub returns-in-List : goal.returns-in-List
returns-in-List c =
    let text = c.in-Some.text.now in
    let all = c.in-List.items in
    let left = c.retain.new.self in
    let made : node (tree.List left) ≡ list (items_view left.items) = search (the_lemmas, rules) in
    let given : node c.args.tree ≡ list (items_view all.items) = ap node c.in-List.is ∙ search (the_lemmas, rules) in
    let asked : option_map (λ t. t.now) c.args.name ≡ Some text = ap (option_map (λ t. t.now)) c.in-Some.is in
    let same = filter_same _ (λ (i : Item). is_named text (node i.value)) _ (λ x b f' k. search rules) _ _ c.retain.ensures.filtered in
    made ∙ ap list (ap items_view same ∙ kept_items text all.items) ∙ sym (ap₂ named asked given)
