-- The lines, grouped by their depth, and what they stand for.
use Rattle.std.specs.Prelude.{◌≡◌, ◌≤◌, ◌^◌, ℕ, zero, suc, List, [], ◌∷◌, length, Bool, true, not, ◌==◌, ◌&&◌, nat_lt, if◌then◌else◌, Option, Some, None, option_map}
use Rattle.fisca_yaml_scalars.specs.Characters.{tab}
use Rattle.std.specs.List.{list_all}
use Rattle.fisca_yaml.specs.Node.{Node, nested, keys, repeats, null, scalar, list, map, Items, no_items, item, Entries, no_entries}
use Rattle.fisca_yaml_scalars.specs.Rows.{Row}
use Rattle.fisca_yaml_scalars.specs.Steps.Rows.{begins, tail, begins_item, rank, following, after_dash, is_marker, text_rows}
use Rattle.fisca_yaml_scalars.specs.Deeper.{front}
use Rattle.fisca_yaml_scalars.specs.Scalars.{Read, entry_of, quoted}
use Rattle.fisca_yaml.specs.Leaves.{quoted_value, plain_value}
use Rattle.fisca_yaml_scalars.specs.Steps.Scalars.{is_key, is_quote, ends_line}
use Rattle.fisca_yaml.specs.Flow.{add_pair, flow_value}
use Rattle.fisca_yaml_scalars.specs.Steps.Openings.{is_bracket, opens, begins_text, opens_item}
use Rattle.fisca_yaml.specs.Steps.Grouping.{is_header}

-- a line, and the deeper lines below it
pub record Group : Type 0 where
  pub head : Row
  pub inside : List Row

-- each line that isn't deeper, with all deeper lines that follow it
abbrev pub groups : ℕ → List Row → List Group
groups r [] = []
groups r (l ∷ ls) = if nat_lt r (rank l) then groups r ls else record { head = l; inside = front r ls } ∷ groups r ls

-- one put in front of the others, where all are there
abbrev pub joined : {A B : Type 0} → (A → B → B) → Option A → Option B → Option B
joined put None rest = None
joined put (Some a) None = None
joined put (Some a) (Some b) = Some (put a b)

-- a value for each group, all heads being at this depth
abbrev pub all_of : {A B : Type 0} → B → (ℕ → A → B → B) → (Group → Option A) → ℕ → List Group → Option B
all_of none put value r [] = Some none
all_of none put value r (g ∷ gs) = if rank g.head == r then joined (put g.head.number) (value g) (all_of none put value r gs) else None

abbrev pub items_of : (Group → Option Node) → ℕ → List Group → Option Items
items_of = all_of no_items item

abbrev pub entries_of : (Group → Option (List ℕ × Node)) → ℕ → List Group → Option Entries
entries_of = all_of no_entries add_pair

-- the map of these entries, where no key comes twice
abbrev pub map_of : Option Entries → Option Node
map_of None = None
map_of (Some es) = if repeats (keys es) then None else Some (map es)

-- a value that stands on its line has no lines of its own below
abbrev pub alone : List Row → Option Node → Option Node
alone [] o = o
alone (l ∷ ls) o = None

abbrev pub ended : Option (Node × List ℕ) → Option Node
ended None = None
ended (Some p) = if ends_line p.1 then Some p.0 else None

-- a scalar or a collection in brackets, to the line's end, with at most so many lists and maps in one another
abbrev pub on_line : ℕ → Row → Option Node
on_line d r =
    if is_bracket r.content then ended (flow_value d r.number r.content)
    else (if is_quote r.content then quoted_value r.number (quoted r.content) else plain_value r.number r.content)

-- a line of a block text is deeper than the entry or item, and no tab stands among its leading blanks
abbrev pub is_text_line : ℕ → Row → Bool
is_text_line indent l = nat_lt indent l.indent && not (begins tab l.content)

-- a block text, which is read as a quoted scalar without text
abbrev pub text_block : ℕ → Row → List Row → Option Node
text_block indent r inside = if is_header (tail r.content) && list_all (is_text_line indent) inside then Some (scalar [] true r.number) else None

-- a value beside a key or a dash that stands at this indentation
abbrev pub beside : ℕ → ℕ → Row → List Row → Option Node
beside d indent r inside = if begins_text r then text_block indent r inside else alone inside (on_line d r)

-- the value of an item, from what follows its dash; block reads a block of lines
abbrev pub item_rest : ℕ → (List Row → Option Node) → ℕ → Option Row → List Row → Option Node
item_rest d block indent None inside = block inside
item_rest d block indent (Some r) inside = if opens_item r then block (r ∷ inside) else beside d indent r inside

abbrev pub item_value : ℕ → (List Row → Option Node) → Group → Option Node
item_value d block g = item_rest d block g.head.indent (after_dash g.head) g.inside

-- the value of an entry, from what follows its colon
abbrev pub entry_rest : ℕ → (List Row → Option Node) → ℕ → Option Row → List Row → Option Node
entry_rest d block indent None inside = block inside
entry_rest d block indent (Some r) inside = beside d indent r inside

abbrev pub keyed : List ℕ → Option Node → Option (List ℕ × Node)
keyed key None = None
keyed key (Some n) = Some (key, n)

abbrev pub entry_with : ℕ → (List Row → Option Node) → Group → Read → Option (List ℕ × Node)
entry_with d block g None = None
entry_with d block g (Some p) = if is_key p.0 then keyed p.0 (entry_rest d block g.head.indent (following g.head.number 0 p.1) g.inside) else None

abbrev pub entry_value : ℕ → (List Row → Option Node) → Group → Option (List ℕ × Node)
entry_value d block g = entry_with d block g (entry_of g.head.content)

abbrev pub block_step : ℕ → (List Row → Option Node) → Row → List Row → Option Node
block_step d block l ls =
    if begins_item l.content then option_map list (items_of (item_value d block) (rank l) (groups (rank l) (l ∷ ls)))
    else map_of (entries_of (entry_value d block) (rank l) (groups (rank l) (l ∷ ls)))

-- the value of these lines, with at most so many lists and maps in one another
unfoldable pub block : ℕ → List Row → Option Node
block d [] = Some null
block zero (l ∷ ls) = None
block (suc d) (l ∷ ls) = block_step d (block d) l ls

-- a text is nothing, one value on a line, or a block
abbrev pub value_of : ℕ → List Row → Option Node
value_of d [] = Some null
value_of d (r ∷ rs) = if is_marker r then None else (if opens r then block d (r ∷ rs) else alone rs (on_line d r))

abbrev pub tree : ℕ → List ℕ → Option Node
tree d text = value_of d (text_rows text)

-- the text has this value
abbrev pub IsTree : List ℕ → Node → Type 0
IsTree text n = (d : ℕ) × (tree d text ≡ Some n)

-- no limit is passed: 1 MiB of text, and 16 lists and maps in one another
abbrev pub Within : List ℕ → Node → Type 0
Within text n = (length text ≤ 2 ^ 20) × (nested n ≤ 16)

-- the tree of a text within the limits
unfoldable pub document : List ℕ → Option Node
document text = if nat_lt (2 ^ 20) (length text) then None else tree 16 text
