-- Faults of an input's members, and the lines of what has a wrong shape.
use Rattle.fisca_yaml.specs.Node.{Node, null, scalar, list, map, Entries, no_entries}

-- the same of what has been read; of another shape there are none
abbrev pub entries_in : Node → Entries
entries_in null = no_entries
entries_in (scalar t q l) = no_entries
entries_in (list is) = no_entries
entries_in (map es) = es
