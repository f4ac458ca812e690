-- Which tests have a text in their names.
use Rattle.std.proofs.Common.{◌≡◌, ◌↔◌, ◌⊎◌, ℕ, ◌++◌, List, [], ◌∷◌, Bool, true, false, ◌||◌, length, drop, cond, inl, inr, refl, sym, ap, ◌∙◌}
use Rattle.std.proofs.lemmas.Bool.Decides.{Decides-eqb}
use Rattle.std.proofs.lemmas.Slice.Eq.{starts_is}
use Rattle.std.specs.Prelude.{nat_eq}
use Rattle.std.specs.List.{filter, starts_with}
use Rattle.std.specs.Str.Iter.{HasSubslice}
use Rattle.fisca_run.specs.Named.{has_text, is_named, named_items}
use Rattle.fisca_yaml.specs.Node.{Node, Items, item}
use Rattle.fisca_yaml.specs.Views.{Seen_entry, Seen_item, entry_step, item_step, items_view, node, seen_item, tree_step}
use Rattle.fisca_yaml.specs.declared.tree.Item.{Item, fold_out-Item}

or_left : (a b : Bool) → a ≡ true → (a || b) ≡ true
or_left a b e = rw e refl

or_right : (a b : Bool) → b ≡ true → (a || b) ≡ true
or_right true b e = refl
or_right false b e = e

either : (a b : Bool) → (a || b) ≡ true → (a ≡ true) ⊎ (b ≡ true)
either true b e = inl refl
either false b e = inr e

-- the text stands where it begins
begun : (text name rest : List ℕ) → name ≡ text ++ rest → starts_with nat_eq name text ≡ true
begun text name rest e = (starts_is Decides-eqb name text (starts_with nat_eq name text) refl).1 rest e

begins : (text name : List ℕ) → starts_with nat_eq name text ≡ true → name ≡ text ++ drop (length text) name
begins text name e = (starts_is Decides-eqb name text (starts_with nat_eq name text) refl).0 e

found : (text name before behind : List ℕ) → name ≡ before ++ (text ++ behind) → has_text text name ≡ true
found text [] [] behind e = begun text [] behind e
found text [] (byte ∷ before) behind e = absurd cc
found text (byte ∷ name) [] behind e = or_left _ (has_text text name) (begun text (byte ∷ name) behind e)
found text (byte ∷ name) (first ∷ before) behind e = or_right (starts_with nat_eq (byte ∷ name) text) _ (found text name before behind (cc))

stands : (text name : List ℕ) → has_text text name ≡ true → HasSubslice name text
stands text [] e = ([], drop (length text) [], begins text [] e)
stands text (byte ∷ name) e = at (λ later. stands text name later) (either (starts_with nat_eq (byte ∷ name) text) (has_text text name) e)
  where
    at : (has_text text name ≡ true → HasSubslice name text) → (starts_with nat_eq (byte ∷ name) text ≡ true) ⊎ (has_text text name ≡ true) → HasSubslice (byte ∷ name) text
    at rest (inl here) = ([], drop (length text) (byte ∷ name), begins text (byte ∷ name) here)
    at rest (inr later) = let is = rest later in (byte ∷ is.0, is.1, ap (λ bytes. byte ∷ bytes) is.2)

-- what `contains` answers is whether the text stands somewhere
pub contained : (answer : Bool) (text name : List ℕ) → (answer ≡ true) ↔ HasSubslice name text → answer ≡ has_text text name
contained true text name is = let at = is.0 refl in sym (found text name at.0 at.1 at.2)
contained false text name is = no (has_text text name) refl
  where
    no : (b : Bool) → has_text text name ≡ b → false ≡ b
    no true e = is.1 (stands text name e)
    no false e = refl

seen : (i : Item) → seen_item i ≡ record { line = i.line; value = node i.value }
seen i = fold_out-Item Node Seen_entry Seen_item tree_step entry_step item_step i

-- an item is left or not
kept : (is : Bool) (i : Item) (items : List Item) (rest : Items) → items_view items ≡ rest → items_view (cond is (i ∷ items) items) ≡ cond is (item i.line (node i.value) rest) rest
kept true i items rest e = ap (λ (s : Seen_item). item s.line s.value (items_view items)) (seen i) ∙ ap (item i.line (node i.value)) e
kept false i items rest e = e

-- the items that are left are those of the name
pub kept_items : (text : List ℕ) (items : List Item) → items_view (filter (λ (i : Item). is_named text (node i.value)) items) ≡ named_items text (items_view items)
kept_items text [] = refl
kept_items text (i ∷ items) =
    kept (is_named text (node i.value)) i (filter (λ (i : Item). is_named text (node i.value)) items) (named_items text (items_view items)) (kept_items text items)
    ∙ ap (λ (s : Seen_item). named_items text (item s.line s.value (items_view items))) (sym (seen i))
