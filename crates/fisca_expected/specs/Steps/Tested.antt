-- Which expected values are compared: those of some variables alone, or of all but some.
use Rattle.std.specs.Prelude.{ℕ, ◌==◌, ◌&&◌, ◌||◌, List, Bool, true, false, not, Option, Some, None}
use Rattle.fisca_model.specs.Tables.{variable_named}
use Rattle.fisca_symbols.specs.Known.{tables as known}
use Rattle.fisca_symbols.specs.declared.tables.Tables.{Tables}
use Rattle.fisca_yaml.specs.Node.{Node, null, scalar, list, map, Items, no_items, item}
use Rattle.fisca_yaml.specs.Steps.Find.{as_text}

-- the variable at this place was found
abbrev pub is_found : {X : Type 0} → ℕ → Option (ℕ × X) → Bool
is_found variable None = false
is_found variable (Some found) = found.0 == variable

abbrev pub is_called : Tables → ℕ → Option (List ℕ) → Bool
is_called c variable None = false
is_called c variable (Some name) = is_found variable (variable_named (known c) name)

-- a scalar is the name of the variable at this place
abbrev pub is_name_of : Tables → ℕ → Node → Bool
is_name_of c variable n = is_called c variable (as_text n)

abbrev pub items_name : Tables → ℕ → Items → Bool
items_name c variable no_items = false
items_name c variable (item line n is) = is_name_of c variable n || items_name c variable is

-- the same of one of a list
abbrev pub names : Tables → ℕ → Node → Bool
names c variable null = false
names c variable (scalar t q line) = is_name_of c variable (scalar t q line)
names c variable (list is) = items_name c variable is
names c variable (map es) = false

-- where variables are named that alone are compared, it is one of them
abbrev pub is_among : Tables → ℕ → Option Node → Bool
is_among c variable None = true
is_among c variable (Some n) = names c variable n

-- it is one of those that are not compared
abbrev pub is_ignored : Tables → ℕ → Option Node → Bool
is_ignored c variable None = false
is_ignored c variable (Some n) = names c variable n

abbrev pub is_tested : Tables → Option Node → Option Node → ℕ → Bool
is_tested c only ignored variable = is_among c variable only && not (is_ignored c variable ignored)
