-- The node that a tree stands for.
use Rattle.std.specs.Prelude.{◌≡◌, ℕ, List, [], ◌∷◌, map as list_map}
use Rattle.fisca_yaml.specs.Node.{Node, null, scalar, list, map, Items, no_items, item, Entries, no_entries, entry}
use Rattle.fisca_yaml.specs.declared.tree.Tree.{Tree, fold-Tree}
use Rattle.fisca_yaml.specs.declared.tree.Tree.TheOpen.{Tree-F, Item-F, Entry-F}
use Rattle.fisca_yaml.specs.declared.tree.Item.{Item, fold-Item}
use Rattle.fisca_yaml.specs.declared.tree.Entry.{Entry, fold-Entry}

pub record Seen_item : Type 0 where
  pub line : ℕ
  pub value : Node

pub record Seen_entry : Type 0 where
  pub key : List ℕ
  pub line : ℕ
  pub value : Node

abbrev pub items_seen : List Seen_item → Items
items_seen [] = no_items
items_seen (i ∷ is) = item i.line i.value (items_seen is)

abbrev pub entries_seen : List Seen_entry → Entries
entries_seen [] = no_entries
entries_seen (e ∷ es) = entry e.key e.line e.value (entries_seen es)

abbrev pub tree_step : Tree-F Node Seen_entry Seen_item → Node
tree_step Tree-F.Null = null
tree_step (Tree-F.Scalar text quoted line) = scalar text quoted line
tree_step (Tree-F.List v) = list (items_seen v.items)
tree_step (Tree-F.Map v) = map (entries_seen v.items)

abbrev pub entry_step : Entry-F Node Seen_entry Seen_item → Seen_entry
entry_step e = record { key = e.key; line = e.line; value = e.value }

abbrev pub item_step : Item-F Node Seen_entry Seen_item → Seen_item
item_step i = record { line = i.line; value = i.value }

-- what a tree means
abbrev pub node : Tree → Node
node = fold-Tree Node Seen_entry Seen_item tree_step entry_step item_step

abbrev pub seen_item : Item → Seen_item
seen_item = fold-Item Node Seen_entry Seen_item tree_step entry_step item_step

abbrev pub seen_entry : Entry → Seen_entry
seen_entry = fold-Entry Node Seen_entry Seen_item tree_step entry_step item_step

-- the items of a list, and the entries of a map
abbrev pub items_view : List Item → Items
items_view is = items_seen (list_map seen_item is)

abbrev pub entries_view : List Entry → Entries
entries_view es = entries_seen (list_map seen_entry es)

-- these items or entries, and then the rest
abbrev pub items_before : List Item → Items → Items
items_before [] rest = rest
items_before (i ∷ is) rest = item (seen_item i).line (seen_item i).value (items_before is rest)

abbrev pub entries_before : List Entry → Entries → Entries
entries_before [] rest = rest
entries_before (e ∷ es) rest = entry (seen_entry e).key (seen_entry e).line (seen_entry e).value (entries_before es rest)

abbrev pub AddsItem : List Item → List Item → ℕ → Node → Type 0
AddsItem old new line value = (rest : Items) → items_before new rest ≡ items_before old (item line value rest)

abbrev pub AddsEntry : List Entry → List Entry → List ℕ → ℕ → Node → Type 0
AddsEntry old new key line value = (rest : Entries) → entries_before new rest ≡ entries_before old (entry key line value rest)

-- a key beside its value
abbrev pub keyed_view : List ℕ × Tree → List ℕ × Node
keyed_view p = (p.0, node p.1)
