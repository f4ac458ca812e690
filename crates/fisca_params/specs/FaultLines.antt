-- Which line of a file does not fit.
use Rattle.std.specs.Prelude.{ℕ, Bool, ◌&&◌, List, Option, None, option_map, option_and_then, is_some, is_none, if◌then◌else◌, codes}
use Rattle.std.specs.Option.{unwrap_or}
use Rattle.fisca_yaml.specs.Steps.Find.{get}
use Rattle.fisca_yaml.specs.Node.{Node, null, scalar, list, map, Items, no_items, item}
use Rattle.fisca_params.specs.Content.{date_of, first_line}
use Rattle.fisca_params.specs.Steps.Content.{written_value, date_map, dates_or_none, names_field, bracket_of}
pub use Rattle.fisca_yaml.specs.Find.{line_at}
use Rattle.fisca_params.specs.Steps.FaultLines.{line_of}

-- of the first entry of a map that fails a test, else of the node
abbrev pub first_entry : (List ℕ → Node → Bool) → Node → Option ℕ
first_entry passes null = None
first_entry passes (scalar t q line) = None
first_entry passes (list is) = None
first_entry passes (map es) = first_line passes es

abbrev pub entry_or_node : (List ℕ → Node → Bool) → ℕ → Node → ℕ
entry_or_node passes given n = unwrap_or (first_entry passes n) (line_of given n)

abbrev pub is_dated : List ℕ → Node → Bool
is_dated key n = is_some (date_of key) && is_some (written_value n)

-- of the values of a parameter: the first without an instant or a value
abbrev pub values_line : ℕ → Node → ℕ
values_line given n = entry_or_node is_dated given n

-- of a field of a bracket: the first without an instant or a value, else the field's own
abbrev pub field_line : ℕ → Node → ℕ
field_line given n = unwrap_or (option_and_then (first_entry is_dated) (date_map n)) (line_of given n)

-- of the field of this name, where it is no dated number
abbrev pub unreadable : List ℕ → Node → Option ℕ
unreadable name n = if is_none (dates_or_none (get name n)) then option_map (field_line (line_at name 1 n)) (get name n) else None

-- of a bracket: the first key that names no field, else the first field that is no dated number: threshold, rate, amount
abbrev pub bracket_line : ℕ → Node → ℕ
bracket_line given n =
    unwrap_or (first_entry names_field n) (unwrap_or (unreadable (codes "threshold") n) (unwrap_or (unreadable (codes "rate") n) (unwrap_or (unreadable (codes "amount") n) (line_of given n))))

-- of the first bracket that is none
abbrev pub brackets_line : Items → ℕ
brackets_line no_items = 0
brackets_line (item line n is) = if is_none (bracket_of n) then bracket_line line n else brackets_line is

-- of the brackets of a scale
abbrev pub scale_line : ℕ → Node → ℕ
scale_line given null = given
scale_line given (scalar t q line) = line
scale_line given (list is) = brackets_line is
scale_line given (map es) = given
