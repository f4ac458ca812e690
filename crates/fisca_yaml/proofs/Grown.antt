-- Lists of items and entries that grow at their end, and their loops, a turn at a time.
use Rattle.std.proofs.Common.{◌≡◌, ℕ, ◌≤◌, List, [], ◌∷◌, ◌++◌, Option, Some, None, option_map, refl, sym, ap, ◌∙◌, rules, Vec}
use Rattle.fisca_yaml.specs.Node.{list, Items, no_items, item, Entries, no_entries, entry}
use Rattle.fisca_yaml_scalars.specs.Rows.{Row}
use Rattle.fisca_yaml_scalars.specs.Steps.Rows.{rank}
use Rattle.fisca_yaml.specs.Grouping.{Group, groups, joined, all_of}
use Rattle.fisca_yaml_scalars.specs.Deeper.{front, after}
use Rattle.fisca_yaml.specs.Views.{node, Seen_item, Seen_entry, seen_item, seen_entry, items_view, entries_view, items_before, entries_before, AddsItem, AddsEntry}
use Rattle.fisca_yaml.specs.declared.tree.Tree.{Tree, List as TreeList, the_lemmas}
use Rattle.fisca_yaml.specs.declared.tree.Item.{Item, roll-Item, the_lemmas as item_lemmas}
use Rattle.fisca_yaml.specs.declared.tree.Entry.{Entry, roll-Entry, the_lemmas as entry_lemmas}
use Rattle.std.specs.declared.alloc.Global.{Global}
use Rattle.fisca_yaml.proofs.Groups.{all_turn, Takes, Takes-pending, pending}

pub items_before-no_items : (is : List Item) → items_before is no_items ≡ items_view is
items_before-no_items [] = refl
items_before-no_items (i ∷ is) = ap (item (seen_item i).line (seen_item i).value) (items_before-no_items is)

pub entries_before-no_entries : (es : List Entry) → entries_before es no_entries ≡ entries_view es
entries_before-no_entries [] = refl
entries_before-no_entries (e ∷ es) = ap (entry (seen_entry e).key (seen_entry e).line (seen_entry e).value) (entries_before-no_entries es)

pub items_push : (is : List Item) (i : Item) (rest : Items) → items_before (is ++ i ∷ []) rest ≡ items_before is (item (seen_item i).line (seen_item i).value rest)
items_push [] i rest = refl
items_push (j ∷ is) i rest = ap (item (seen_item j).line (seen_item j).value) (items_push is i rest)

pub entries_push : (es : List Entry) (e : Entry) (rest : Entries) → entries_before (es ++ e ∷ []) rest ≡ entries_before es (entry (seen_entry e).key (seen_entry e).line (seen_entry e).value rest)
entries_push [] e rest = refl
entries_push (d ∷ es) e rest = ap (entry (seen_entry d).key (seen_entry d).line (seen_entry d).value) (entries_push es e rest)

seen-roll : (n : ℕ) (t : Tree) → seen_item (roll-Item (record { line = n; value = t })) ≡ record { line = n; value = node t }
seen-roll n t = search (rules, item_lemmas)

seen-roll-entry : (k : List ℕ) (n : ℕ) (t : Tree) → seen_entry (roll-Entry (record { key = k; line = n; value = t })) ≡ record { key = k; line = n; value = node t }
seen-roll-entry k n t = search (rules, entry_lemmas)

pub adds_item : (old new : List Item) (n : ℕ) (t : Tree) → new ≡ old ++ roll-Item (record { line = n; value = t }) ∷ [] → AddsItem old new n (node t)
adds_item old new n t e rest =
    ap (λ l. items_before l rest) e ∙ items_push old (roll-Item (record { line = n; value = t })) rest ∙ ap (λ (s : Seen_item). items_before old (item s.line s.value rest)) (seen-roll n t)

pub adds_entry : (old new : List Entry) (k : List ℕ) (n : ℕ) (t : Tree) → new ≡ old ++ roll-Entry (record { key = k; line = n; value = t }) ∷ [] → AddsEntry old new k n (node t)
adds_entry old new k n t e rest =
    ap (λ l. entries_before l rest) e ∙ entries_push old (roll-Entry (record { key = k; line = n; value = t })) rest
    ∙ ap (λ (s : Seen_entry). entries_before old (entry s.key s.line s.value rest)) (seen-roll-entry k n t)

pub node-List : (v : Vec Item Global) → node (TreeList v) ≡ list (items_view v.items)
node-List v = search (rules, the_lemmas)

one_more : {A B X : Type 0} (put : A → B → B) (before : List X → B → B) (xs ys : List X) (a : A) (o : Option B) → ((rest : B) → before ys rest ≡ before xs (put a rest)) → option_map (before xs) (joined put (Some a) o) ≡ option_map (before ys) o
one_more put before xs ys a None e = refl
one_more put before xs ys a (Some rest) e = ap Some (sym (e rest))

-- one turn of a loop over the groups
module _ {A B X : Type 0} (none : B) (put : ℕ → A → B → B) (before : List X → B → B) (value : Group → Option A) (f r : ℕ) (l : Row) (ls : List Row) (below : f ≤ r) (here : rank l ≡ r) where
  pub all_none : value (record { head = l; inside = front (rank l) ls }) ≡ None → all_of none put value r (groups r (l ∷ front f ls)) ≡ None
  all_none e =
      let e' : value (record { head = l; inside = front r ls }) ≡ None = ap (λ k. value (record { head = l; inside = front k ls })) (sym here) ∙ e in
      all_turn none put value f r l ls below here ∙ ap (λ v. joined (put l.number) v (all_of none put value r (groups r (front f (after r ls))))) e'

  pub all_more : (xs ys : List X) (v : A) (next : Option Row) (new left : List Row) → value (record { head = l; inside = front (rank l) ls }) ≡ Some v → ((rest : B) → before ys rest ≡ before xs (put l.number v rest))
      → left ≡ after (rank l) ls → Takes f left next new
      → option_map (before xs) (all_of none put value r (groups r (l ∷ front f ls))) ≡ option_map (before ys) (all_of none put value r (groups r (pending f next new)))
  all_more xs ys v next new left e g q t =
      let e' : value (record { head = l; inside = front r ls }) ≡ Some v = ap (λ k. value (record { head = l; inside = front k ls })) (sym here) ∙ e in
      let q' : front f (after r ls) ≡ pending f next new = ap (λ k. front f (after k ls)) (sym here) ∙ ap (front f) (sym q) ∙ sym (Takes-pending f left next new t) in
      let rest = all_of none put value r (groups r (front f (after r ls))) in
      ap (option_map (before xs)) (all_turn none put value f r l ls below here ∙ ap (λ w. joined (put l.number) w rest) e') ∙ one_more (put l.number) before xs ys v rest g
      ∙ ap (λ k. option_map (before ys) (all_of none put value r (groups r k))) q'
