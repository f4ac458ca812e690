-- The steps of code behind `Calc`:
-- A file of `fisca calc`: a map of `period`, `input` and `columns`, each of which may be absent. Its keys come first, then the situation of its
-- input, then its columns; the first fault is told.
use Rattle.std.specs.Prelude.{ℕ, List, [], ◌∷◌, ◌++◌, Bool, true, false, ◌&&◌, is_some, if◌then◌else◌, Option, Some, None, option_and_then, Result, Ok, codes}
use Rattle.std.specs.Option.{unwrap_or}
use Rattle.std.specs.Result.{result_ok}
use Rattle.std.specs.Str.{bytes_eq}
use Rattle.fisca_columns.specs.Columns.{column_of}
use Rattle.fisca_model.specs.declared.key.Key.{Key}
use Rattle.fisca_groups.specs.declared.entity_members.EntityMembers.{EntityMembers}
use Rattle.fisca_num.specs.Results.{and_then}
use Rattle.fisca_situations.specs.Situations.{Situation}
use Rattle.fisca_situations.specs.Steps.Situations.{situation_of}
use Rattle.fisca_symbols.specs.Known.{tables as known}
use Rattle.fisca_symbols.specs.declared.tables.Tables.{Tables}
use Rattle.fisca_time.specs.Period.{Span}
use Rattle.fisca_time.specs.PeriodText.{period_of_text}
use Rattle.fisca_yaml.specs.Find.{line_at}
use Rattle.fisca_yaml.specs.Steps.Find.{as_text, get}
use Rattle.fisca_yaml.specs.Node.{Node, null, scalar, list, map, Items, no_items, item}
use Rattle.fisca_columns.specs.Faults.{fault_at, told}
use Rattle.fisca_columns.specs.declared.fault.RunFileFault.{RunFileFault}
use Rattle.fisca_columns.specs.declared.fault.RunFileKind.TheVariants.{BadColumn}

-- Keys

-- a scalar that is read as a period
abbrev pub period_in : Node → Option Span
period_in n = option_and_then (λ t. result_ok (period_of_text t)) (as_text n)

abbrev pub are_scalars : Items → Bool
are_scalars no_items = true
are_scalars (item line n is) = is_some (as_text n) && are_scalars is

-- one scalar, or a list of them
abbrev pub are_columns : Node → Bool
are_columns null = false
are_columns (scalar t q line) = true
are_columns (list is) = are_scalars is
are_columns (map es) = false

-- a period that can be read, any input, and columns; there is no other key
abbrev pub is_accepted : List ℕ → Node → Bool
is_accepted key n =
    if bytes_eq key (codes "period") then is_some (period_in n)
    else (if bytes_eq key (codes "input") then true
    else (bytes_eq key (codes "columns") && are_columns n))

-- The situation

-- the period of the file, which values and columns without one have
abbrev pub default_in : Node → Option Span
default_in n = option_and_then period_in (get (codes "period") n)

-- an absent input is one person of whom nothing is said
abbrev pub situation_in : Tables → Node → Result Situation RunFileFault
situation_in c n = told (situation_of c (default_in n) (line_at (codes "input") 1 n) (unwrap_or (get (codes "input") n) null))

-- Columns

abbrev pub key_or_fault : ℕ → Option Key → Result Key RunFileFault
key_or_fault line None = fault_at line BadColumn
key_or_fault line (Some k) = Ok k

-- the keys so far, and that of one more column, which is told of the line of its scalar
abbrev pub with_column : Tables → List EntityMembers → Option Span → List Key → Node → Result (List Key) RunFileFault
with_column c ms default ks null = Ok ks
with_column c ms default ks (scalar t q line) = and_then (key_or_fault line (column_of (known c) ms default t)) (λ k. Ok (ks ++ k ∷ []))
with_column c ms default ks (list is) = Ok ks
with_column c ms default ks (map es) = Ok ks

abbrev pub with_columns : Tables → List EntityMembers → Option Span → List Key → Items → Result (List Key) RunFileFault
with_columns c ms default ks no_items = Ok ks
with_columns c ms default ks (item line n is) = and_then (with_column c ms default ks n) (λ js. with_columns c ms default js is)

abbrev pub columns_by : Tables → List EntityMembers → Option Span → Node → Result (List Key) RunFileFault
columns_by c ms default null = Ok []
columns_by c ms default (scalar t q line) = with_column c ms default [] (scalar t q line)
columns_by c ms default (list is) = with_columns c ms default [] is
columns_by c ms default (map es) = Ok []

-- none where there is no such key
abbrev pub columns_in : Tables → List EntityMembers → Node → Result (List Key) RunFileFault
columns_in c ms n = columns_by c ms (default_in n) (unwrap_or (get (codes "columns") n) null)
