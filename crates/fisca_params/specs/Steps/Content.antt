-- The steps of code behind `Content`:
-- What a map of a parameter file is: a parameter, a scale, or a branch with further nodes.
use Rattle.std.specs.Prelude.{ℕ, Bool, true, false, ◌&&◌, ◌||◌, List, [], ◌∷◌, Option, Some, None, option_map, option_and_then, is_some, is_none, if◌then◌else◌, codes}
use Rattle.std.specs.Str.{bytes_eq}
use Rattle.fisca_num.specs.Number.{Number}
use Rattle.fisca_yaml.specs.Node.{Node, null, scalar, list, map, Items, no_items, item, Entries, no_entries, entry}
use Rattle.fisca_yaml.specs.Grouping.{joined}
use Rattle.fisca_yaml.specs.Find.{get_entry}
use Rattle.fisca_yaml.specs.Steps.Find.{get, as_bool, as_number, as_text}
use Rattle.fisca_scales.specs.Dates.{Dated}
use Rattle.fisca_scales.specs.declared.bracket.Bracket.{Bracket}
use Rattle.fisca_params.specs.declared.content.Content.{Content}
use Rattle.fisca_params.specs.declared.content.Content.TheVariants as content
use Rattle.fisca_scales.specs.Steps.Dates.{in_time}
use Rattle.fisca_params.specs.Content.{first_line, Written, written_if_both, date_of}

-- both, the first in front of the list
abbrev pub onto : {X : Type 0} → Option X → Option (List X) → Option (List X)
onto = joined (λ x xs. x ∷ xs)

abbrev pub is_null : Node → Bool
is_null null = true
is_null (scalar t q l) = false
is_null (list is) = false
is_null (map es) = false

abbrev pub is_map : Node → Bool
is_map null = false
is_map (scalar t q l) = false
is_map (list is) = false
is_map (map es) = true

abbrev pub unless_map : Node → Option Node
unless_map n = if is_map n then None else Some n

abbrev pub written_value : Node → Option Node
written_value n = if is_map n then option_and_then unless_map (get (codes "value") n) else Some n

-- the values of a date map, in which each key is an instant
abbrev pub written_values : Entries → Option (List Written)
written_values no_entries = Some []
written_values (entry key line n es) = onto (written_if_both (date_of key) (written_value n)) (written_values es)

-- a null is no value, and any other is read
abbrev pub read_value : {V : Type 0} → (Node → Option V) → Node → Option (Option V)
read_value read n = if is_null n then Some None else option_map Some (read n)

abbrev pub read_dated : {V : Type 0} → (Node → Option V) → Written → Option (Dated V)
read_dated read w = option_map (λ v. record { date = w.date; value = v }) (read_value read w.value)

-- all values, where each can be read
abbrev pub read_all : {V : Type 0} → (Node → Option V) → List Written → Option (List (Dated V))
read_all read [] = Some []
read_all read (w ∷ ws) = onto (read_dated read w) (read_all read ws)

-- the values in order of time, where each can be read
abbrev pub dates_by : {V : Type 0} → (Node → Option V) → List Written → Option (List (Dated V))
dates_by read ws = option_map in_time (read_all read ws)

abbrev pub bools_or_unusable : Option (List (Dated Bool)) → Content
bools_or_unusable (Some ds) = content.Bools ds
bools_or_unusable None = content.Unusable

abbrev pub numbers_or : Option (List (Dated Number)) → Content → Content
numbers_or (Some ds) other = content.Numbers ds
numbers_or None other = other

-- a number parameter where all values that are not null are numbers, a bool parameter where all are bools
abbrev pub parameter_of : List Written → Content
parameter_of ws = numbers_or (dates_by as_number ws) (bools_or_unusable (dates_by as_bool ws))

-- the values of a node that is a date map
abbrev pub values_of : Node → Option (List Written)
values_of null = None
values_of (scalar t q l) = None
values_of (list is) = None
values_of (map es) = written_values es

-- the parameter of a node that is a date map
abbrev pub parameter_in : Node → Option Content
parameter_in n = option_map parameter_of (values_of n)

-- the values of a node that is a date map, in order of time, where each can be read
abbrev pub dates_in : {V : Type 0} → (Node → Option V) → Node → Option (List (Dated V))
dates_in read n = option_and_then (dates_by read) (values_of n)

abbrev pub are_instants : Entries → Bool
are_instants no_entries = true
are_instants (entry key line n es) = is_some (date_of key) && are_instants es

abbrev pub is_date_map : Entries → Bool
is_date_map no_entries = false
is_date_map (entry key line n es) = are_instants (entry key line n es)

abbrev pub date_map_by : Option Node → Option Node → Entries → Option Node
date_map_by (Some values) brackets es = Some values
date_map_by None (Some brackets) es = None
date_map_by None None es = if is_date_map es then Some (map es) else None

-- the date map of a parameter: the `values` of a map or, where it has no `brackets` either, a map of instants alone
abbrev pub date_map : Node → Option Node
date_map null = None
date_map (scalar t q l) = None
date_map (list is) = None
date_map (map es) = date_map_by (get_entry (codes "values") es) (get_entry (codes "brackets") es) es

-- a field of a bracket is dated as a number parameter is
abbrev pub number_dates : Node → Option (List (Dated Number))
number_dates n = option_and_then (dates_in as_number) (date_map n)

abbrev pub dates_or_none : Option Node → Option (List (Dated Number))
dates_or_none None = Some []
dates_or_none (Some n) = number_dates n

abbrev pub is_bracket_field : List ℕ → Bool
is_bracket_field key = bytes_eq key (codes "threshold") || (bytes_eq key (codes "rate") || bytes_eq key (codes "amount"))

abbrev pub names_field : List ℕ → Node → Bool
names_field key n = is_bracket_field key

abbrev pub bracket_if_all : Option (List (Dated Number)) → Option (List (Dated Number)) → Option (List (Dated Number)) → Option Bracket
bracket_if_all (Some t) (Some r) (Some a) = Some (record { threshold = t; rate = r; amount = a })
bracket_if_all (Some t) (Some r) None = None
bracket_if_all (Some t) None a = None
bracket_if_all None r a = None

abbrev pub bracket_with : Node → Option Bracket
bracket_with n =
    bracket_if_all (dates_or_none (get (codes "threshold") n)) (dates_or_none (get (codes "rate") n)) (dates_or_none (get (codes "amount") n))

-- a bracket has no keys but its three fields
abbrev pub bracket_of : Node → Option Bracket
bracket_of null = None
bracket_of (scalar t q l) = None
bracket_of (list is) = None
bracket_of (map es) = if is_none (first_line names_field es) then bracket_with (map es) else None

abbrev pub brackets_of : Items → Option (List Bracket)
brackets_of no_items = Some []
brackets_of (item line n is) = onto (bracket_of n) (brackets_of is)

abbrev pub brackets_in : Node → Option (List Bracket)
brackets_in null = None
brackets_in (scalar t q l) = None
brackets_in (list is) = brackets_of is
brackets_in (map es) = None

abbrev pub text_is : List ℕ → Option (List ℕ) → Bool
text_is text None = false
text_is text (Some t) = bytes_eq t text

-- the metadata of a scale mark it `type: single_amount`
abbrev pub is_single_amount : Node → Bool
is_single_amount n =
    text_is (codes "single_amount") (option_and_then as_text (option_and_then (get (codes "type")) (get (codes "metadata") n)))

abbrev pub scale_with : Node → List Bracket → Content
scale_with n bs = content.Scale (record { is_single_amount = is_single_amount n; brackets = bs })

-- the scale of a map that has these brackets
abbrev pub scale_of : Node → Node → Option Content
scale_of n brackets = option_map (scale_with n) (brackets_in brackets)
