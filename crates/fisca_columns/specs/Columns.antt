-- The key that a column names.
use Rattle.std.specs.Prelude.{ℕ, List, if◌then◌else◌, Option, Some, None, option_map, option_and_then, is_some}
use Rattle.fisca_inputs.specs.Entries.{key}
use Rattle.fisca_model.specs.declared.key.Key.{Key}
use Rattle.fisca_groups.specs.Lookup.{count_at}
use Rattle.fisca_groups.specs.declared.entity_members.EntityMembers.{EntityMembers}
use Rattle.fisca_time.specs.Period.{Span}
use Rattle.fisca_model.specs.Tables.{Tables, Variable, variable_named}
use Rattle.fisca_columns.specs.Steps.Places.{member_at}
use Rattle.fisca_columns.specs.Written.{Parts}
use Rattle.fisca_columns.specs.Steps.Written.{parts_of}
use Rattle.fisca_columns.specs.Steps.Columns.{period_at}

-- days and texts are not asked for
abbrev pub if_usable : ℕ × Variable → Option (ℕ × Variable)
if_usable x = if is_some x.1.value_type then Some x else None

-- the key of a variable, the first of its name, for these parts
abbrev pub key_at : List EntityMembers → Option Span → Parts → ℕ × Variable → Option Key
key_at ms default w x = option_and_then (λ m. option_map (key x.0 m) (period_at x.1.definition_period default w.period)) (member_at (count_at ms x.1.entity) w.index)

abbrev pub key_of_parts : Tables → List EntityMembers → Option Span → Parts → Option Key
key_of_parts c ms default w = option_and_then (key_at ms default w) (option_and_then if_usable (variable_named c w.name))

-- the key that a text names, with the members that there are and the default period
abbrev pub column_of : Tables → List EntityMembers → Option Span → List ℕ → Option Key
column_of c ms default text = key_of_parts c ms default (parts_of text)
