-- What a text of this subset means.
use Rattle.std.specs.Prelude.{ℕ, suc, ◌<◌, max, List, [], ◌∷◌, Bool, false, ◌||◌}
use Rattle.std.specs.List.{list_any}
use Rattle.std.specs.Str.{bytes_eq}

mutual
  pub data Node : Type 0 where
    null : Node
    -- its text, whether it stands in quotes, and its line
    scalar : List ℕ → Bool → ℕ → Node
    list : Items → Node
    map : Entries → Node

  -- each with the line of its dash
  pub data Items : Type 0 where
    no_items : Items
    item : ℕ → Node → Items → Items

  -- each with its key, and the line of its key
  pub data Entries : Type 0 where
    no_entries : Entries
    entry : List ℕ → ℕ → Node → Entries → Entries

-- how deep lists and maps nest
abbrev mutual
  pub nested : Node → ℕ
  nested null = 0
  nested (scalar t q n) = 0
  nested (list is) = suc (items_nested is)
  nested (map es) = suc (entries_nested es)

  pub items_nested : Items → ℕ
  items_nested no_items = 0
  items_nested (item n v is) = max (nested v) (items_nested is)

  pub entries_nested : Entries → ℕ
  entries_nested no_entries = 0
  entries_nested (entry k n v es) = max (nested v) (entries_nested es)

abbrev pub keys : Entries → List (List ℕ)
keys no_entries = []
keys (entry k n v es) = k ∷ keys es

-- some key comes twice
abbrev pub repeats : List (List ℕ) → Bool
repeats [] = false
repeats (k ∷ ks) = list_any (bytes_eq k) ks || repeats ks

-- the lines of entries are counted from 1
abbrev pub AreNumbered : Entries → Type 0
AreNumbered no_entries = Unit
AreNumbered (entry k n v es) = (0 < n) × AreNumbered es

-- the greatest line of an entry
abbrev pub last_line : Entries → ℕ
last_line no_entries = 0
last_line (entry k n v es) = max n (last_line es)
