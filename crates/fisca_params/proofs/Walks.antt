-- What is left of a map's entries, or of a list's items, from a place on.
use Rattle.std.proofs.Common.{◌≡◌, ℕ, suc, ◌+◌, ◌<◌, List, ◌∷◌, length, get_or, drop, drop-cons, add-one, sym, ◌∙◌, ap, ◌++◌, [], Option, Some, None, option_map, refl, append_assoc}
use Rattle.fisca_params.specs.Steps.Content.{onto}
use Rattle.fisca_yaml.specs.Node.{Node, entry}
use Rattle.fisca_yaml.specs.declared.tree.Entry.{Entry, fold_out-Entry}
use Rattle.fisca_yaml.specs.Views.{node, Seen_entry, Seen_item, seen_entry, tree_step, entry_step, item_step, entries_view}

seen-entry : (e : Entry) → seen_entry e ≡ record { key = e.key; line = e.line; value = node e.value }
seen-entry e = fold_out-Entry Node Seen_entry Seen_item tree_step entry_step item_step e

pub entries-drop : (es : List Entry) (i : ℕ) (e : Entry) → i < length es → e ≡ get_or es i e →
    entries_view (drop i es) ≡ entry e.key e.line (node e.value) (entries_view (drop (i + 1) es))
entries-drop es i e p is =
    let whole : drop i es ≡ get_or es i e ∷ drop (suc i) es = drop-cons es i e p in
    ap entries_view whole
    ∙ ap (λ (f : Entry). entries_view (f ∷ drop (suc i) es)) (sym is)
    ∙ ap (λ (s : Seen_entry). entry s.key s.line s.value (entries_view (drop (suc i) es))) (seen-entry e)
    ∙ ap (λ k. entry e.key e.line (node e.value) (entries_view (drop k es))) (sym (add-one i))

-- these, before what is left, where that is
abbrev pub after : {X : Type 0} → List X → Option (List X) → Option (List X)
after done o = option_map (λ rest. done ++ rest) o

pub after-one : {X : Type 0} (done : List X) (x : X) (o : Option (List X)) → after done (onto (Some x) o) ≡ after (done ++ x ∷ []) o
after-one done x None = refl
after-one done x (Some rest) = ap Some (sym (append_assoc done (x ∷ []) rest))
