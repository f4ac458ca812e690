-- The variables that a run file neutralises.
use Rattle.std.specs.Prelude.{ℕ, List, map as list_map, Bool, true, false, Option, Some, None, option_map, option_and_then, Result, Ok, slice_set, codes}
use Rattle.std.specs.Option.{unwrap_or}
use Rattle.fisca_columns.specs.Faults.{fault_at}
use Rattle.fisca_columns.specs.declared.fault.RunFileFault.{RunFileFault}
use Rattle.fisca_columns.specs.declared.fault.RunFileKind.TheVariants.{BadNeutral}
use Rattle.fisca_columns.specs.Columns.{if_usable}
use Rattle.fisca_num.specs.Results.{and_then}
use Rattle.fisca_symbols.specs.Known.{tables as known}
use Rattle.fisca_symbols.specs.declared.tables.Tables.{Tables}
use Rattle.fisca_model.specs.Tables.{variable_named}
use Rattle.fisca_yaml.specs.Steps.Find.{get}
use Rattle.fisca_yaml.specs.Node.{Node, null, scalar, list, map, Items, no_items, item}

-- the place of the variable of this name; days and texts are never asked for
abbrev pub neutral_of : Tables → List ℕ → Option ℕ
neutral_of c name = option_map (λ x. x.0) (option_and_then if_usable (variable_named (known c) name))

abbrev pub marked_or_fault : ℕ → List Bool → Option ℕ → Result (List Bool) RunFileFault
marked_or_fault line marks None = fault_at line BadNeutral
marked_or_fault line marks (Some x) = Ok (slice_set marks x true)

-- the marks so far, by the places of variables, and that of one more name; a name that comes again changes nothing
abbrev pub with_name : Tables → List Bool → Node → Result (List Bool) RunFileFault
with_name c marks null = Ok marks
with_name c marks (scalar t q line) = marked_or_fault line marks (neutral_of c t)
with_name c marks (list is) = Ok marks
with_name c marks (map es) = Ok marks

abbrev pub with_names : Tables → List Bool → Items → Result (List Bool) RunFileFault
with_names c marks no_items = Ok marks
with_names c marks (item line n is) = and_then (with_name c marks n) (λ more. with_names c more is)

-- no variable has a mark
abbrev pub no_marks : Tables → List Bool
no_marks c = list_map (λ x. false) c.variables

abbrev pub marks_by : Tables → Node → Result (List Bool) RunFileFault
marks_by c null = Ok (no_marks c)
marks_by c (scalar t q line) = with_name c (no_marks c) (scalar t q line)
marks_by c (list is) = with_names c (no_marks c) is
marks_by c (map es) = Ok (no_marks c)

-- none where there is no such key
abbrev pub marks_in : Tables → Node → Result (List Bool) RunFileFault
marks_in c n = marks_by c (unwrap_or (get (codes "neutralize") n) null)
