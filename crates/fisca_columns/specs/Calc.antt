-- A file of `fisca calc`: a map of `period`, `input` and `columns`, each of which may be absent. Its keys come first, then the situation of its
-- input, then its columns; the first fault is told.
use Rattle.std.specs.Prelude.{List, [], if◌then◌else◌, Result, Ok}
use Rattle.fisca_model.specs.declared.key.Key.{Key}
use Rattle.fisca_num.specs.Results.{and_then}
use Rattle.fisca_situations.specs.Situations.{Situation}
use Rattle.fisca_symbols.specs.declared.tables.Tables.{Tables}
use Rattle.fisca_yaml.specs.Node.{Node, null, scalar, list, map, Entries, no_entries, entry}
use Rattle.fisca_columns.specs.Faults.{fault_at}
use Rattle.fisca_columns.specs.declared.fault.RunFileFault.{RunFileFault}
use Rattle.fisca_columns.specs.declared.fault.RunFileKind.TheVariants.{BadKey}
use Rattle.fisca_columns.specs.Steps.Calc.{is_accepted, situation_in, columns_in}

pub record Calc : Type 0 where
  pub situation : Situation
  pub columns : List Key

-- Keys

-- the first key that is not accepted is told of its line
abbrev pub keys_checked : Entries → Result (List Key) RunFileFault
keys_checked no_entries = Ok []
keys_checked (entry key line n es) = if is_accepted key n then keys_checked es else fault_at line BadKey

-- what is no map has no key, and is told of the first line
abbrev pub file_checked : Node → Result (List Key) RunFileFault
file_checked null = fault_at 1 BadKey
file_checked (scalar t q line) = fault_at 1 BadKey
file_checked (list is) = fault_at 1 BadKey
file_checked (map es) = keys_checked es

-- The file

unfoldable pub calc_by : Tables → Node → Situation → Result Calc RunFileFault
calc_by c n s = and_then (columns_in c s.members n) (λ ks. Ok (record { situation = s; columns = ks }))

unfoldable pub calc_of : Tables → Node → Result Calc RunFileFault
calc_of c n = and_then (file_checked n) (λ _. and_then (situation_in c n) (calc_by c n))
