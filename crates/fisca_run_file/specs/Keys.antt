-- The keys of a run file: `axes`, and perhaps `period`, `input`, `filter`, `columns` and `neutralize`.
use Rattle.std.specs.Prelude.{ℕ, List, [], if◌then◌else◌, Option, Some, None, Result, Ok, codes}
use Rattle.std.specs.Str.{bytes_eq}
use Rattle.fisca_columns.specs.Faults.{fault_at}
use Rattle.fisca_columns.specs.declared.fault.RunFileFault.{RunFileFault}
use Rattle.fisca_columns.specs.declared.fault.RunFileKind.TheVariants.{BadKey}
use Rattle.fisca_model.specs.declared.key.Key.{Key}
use Rattle.fisca_num.specs.Results.{and_then}
use Rattle.fisca_yaml.specs.Steps.Find.{get}
use Rattle.fisca_yaml.specs.Node.{Node, null, scalar, list, map, Entries, no_entries, entry}
use Rattle.fisca_run_file.specs.Steps.SaidAxes.{axes_said}
use Rattle.fisca_run_file.specs.Steps.Keys.{is_accepted}

-- axes are read through, and tell of their own first fault; of another key that is not accepted the line of the key is told
abbrev pub key_checked : List ℕ → ℕ → Node → Result (List Key) RunFileFault
key_checked key line n =
    if bytes_eq key (codes "axes") then and_then (axes_said line n) (λ _. Ok [])
    else (if is_accepted key n then Ok [] else fault_at line BadKey)

abbrev pub keys_checked : Entries → Result (List Key) RunFileFault
keys_checked no_entries = Ok []
keys_checked (entry key line n es) = and_then (key_checked key line n) (λ _. keys_checked es)

-- a key that is missing is told of the first line, after all that are there
abbrev pub found : Option Node → Result (List Key) RunFileFault
found None = fault_at 1 BadKey
found (Some n) = Ok []

-- what is no map has no key, and is told of the first line
abbrev pub file_checked : Node → Result (List Key) RunFileFault
file_checked null = fault_at 1 BadKey
file_checked (scalar t q line) = fault_at 1 BadKey
file_checked (list is) = fault_at 1 BadKey
file_checked (map es) = and_then (keys_checked es) (λ _. found (get (codes "axes") (map es)))
