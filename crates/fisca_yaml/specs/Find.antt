-- Looking into a node.
use Rattle.std.specs.Prelude.{ℕ, List, Option, Some, None, if◌then◌else◌}
use Rattle.std.specs.Str.{bytes_eq}
use Rattle.fisca_yaml.specs.Node.{Node, null, scalar, list, map, no_items, item, Entries, no_entries, entry}

-- the value at a key
abbrev pub get_entry : List ℕ → Entries → Option Node
get_entry name no_entries = None
get_entry name (entry k n v es) = if bytes_eq k name then Some v else get_entry name es

-- the line of the entry of this name, where there is one, else the one given
abbrev pub entry_line : List ℕ → ℕ → Entries → ℕ
entry_line name given no_entries = given
entry_line name given (entry key line n es) = if bytes_eq key name then line else entry_line name given es

-- the same of a node
abbrev pub line_at : List ℕ → ℕ → Node → ℕ
line_at name given null = given
line_at name given (scalar t q line) = given
line_at name given (list is) = given
line_at name given (map es) = entry_line name given es

-- the line on which a node begins: a list with its first item, a map with its first key
abbrev pub begins_on : Node → Option ℕ
begins_on null = None
begins_on (scalar t q line) = Some line
begins_on (list no_items) = None
begins_on (list (item line n is)) = Some line
begins_on (map no_entries) = None
begins_on (map (entry key line n es)) = Some line
