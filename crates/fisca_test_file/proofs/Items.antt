-- What is left of a list's items from a place on.
use Rattle.std.proofs.Common.{◌≡◌, ◌∙◌, ℕ, suc, ◌+◌, ◌<◌, List, ◌∷◌, length, get_or, drop, drop-cons, add-one, sym, ap}
use Rattle.fisca_yaml.specs.Node.{Node, item}
use Rattle.fisca_yaml.specs.declared.tree.Item.{Item, fold_out-Item}
use Rattle.fisca_yaml.specs.Views.{node, Seen_entry, Seen_item, seen_item, tree_step, entry_step, item_step, items_view}

seen-item : (x : Item) → seen_item x ≡ record { line = x.line; value = node x.value }
seen-item x = fold_out-Item Node Seen_entry Seen_item tree_step entry_step item_step x

pub items-drop : (xs : List Item) (i : ℕ) (x : Item) → i < length xs → x ≡ get_or xs i x → items_view (drop i xs) ≡ item x.line (node x.value) (items_view (drop (i + 1) xs))
items-drop xs i x inside is =
    let whole : drop i xs ≡ get_or xs i x ∷ drop (suc i) xs = drop-cons xs i x inside in
    ap items_view whole
    ∙ ap (λ (y : Item). items_view (y ∷ drop (suc i) xs)) (sym is)
    ∙ ap (λ (s : Seen_item). item s.line s.value (items_view (drop (suc i) xs))) (seen-item x)
    ∙ ap (λ k. item x.line (node x.value) (items_view (drop k xs))) (sym (add-one i))
