-- The steps of code behind `Find`:
-- Looking into a node.
use Rattle.std.specs.Prelude.{ℕ, List, Bool, true, false, ◌||◌, Option, Some, None, Result, Ok, Err, codes, if◌then◌else◌}
use Rattle.std.specs.Str.{bytes_eq}
use Rattle.fisca_num.specs.declared.faults.NumFault.{NumFault}
use Rattle.fisca_num.specs.Literal.{number_of_literal}
use Rattle.fisca_num.specs.Number.{Number}
use Rattle.fisca_yaml.specs.Node.{Node, null, scalar, list, map}
use Rattle.fisca_yaml.specs.Find.{get_entry}

abbrev pub get : List ℕ → Node → Option Node
get name null = None
get name (scalar t q n) = None
get name (list is) = None
get name (map es) = get_entry name es

-- the text of any scalar
abbrev pub as_text : Node → Option (List ℕ)
as_text null = None
as_text (scalar t q n) = Some t
as_text (list is) = None
as_text (map es) = None

-- the text of a scalar without quotes
abbrev pub as_plain : Node → Option (List ℕ)
as_plain null = None
as_plain (scalar t q n) = if q then None else Some t
as_plain (list is) = None
as_plain (map es) = None

-- in lower case, with a capital, or all in capitals
abbrev pub is_yes : List ℕ → Bool
is_yes t =
    bytes_eq t (codes "true") || (bytes_eq t (codes "True") || (bytes_eq t (codes "TRUE")
    || (bytes_eq t (codes "yes") || (bytes_eq t (codes "Yes") || (bytes_eq t (codes "YES")
    || (bytes_eq t (codes "on") || (bytes_eq t (codes "On") || bytes_eq t (codes "ON"))))))))

abbrev pub is_no : List ℕ → Bool
is_no t =
    bytes_eq t (codes "false") || (bytes_eq t (codes "False") || (bytes_eq t (codes "FALSE")
    || (bytes_eq t (codes "no") || (bytes_eq t (codes "No") || (bytes_eq t (codes "NO")
    || (bytes_eq t (codes "off") || (bytes_eq t (codes "Off") || bytes_eq t (codes "OFF"))))))))

abbrev pub bool_of : Option (List ℕ) → Option Bool
bool_of None = None
bool_of (Some t) = if is_yes t then Some true else (if is_no t then Some false else None)

abbrev pub as_bool : Node → Option Bool
as_bool n = bool_of (as_plain n)

-- the number of a decimal literal
abbrev pub number_found : Result Number NumFault → Option Number
number_found (Ok v) = Some v
number_found (Err f) = None

abbrev pub number_in : Option (List ℕ) → Option Number
number_in None = None
number_in (Some t) = number_found (number_of_literal t)

abbrev pub as_number : Node → Option Number
as_number n = number_in (as_plain n)
