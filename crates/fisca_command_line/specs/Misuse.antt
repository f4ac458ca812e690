-- Options that mean nothing, or nothing together.
use Rattle.std.specs.Prelude.{◌||◌, Bool, List, [], ◌∷◌, Option, Some, None, is_some, codes, if◌then◌else◌}
use Rattle.std.specs.Option.{option_or}
use Rattle.std.specs.Str.{bytes_eq}
use Rattle.clap.specs.Faults.{fault_of}
use Rattle.clap.specs.Kinds.{Kinds, or_else}
use Rattle.clap.specs.Simple.{subcommand_of}
use Rattle.clap.specs.Walk.{Row, Text, first_of}
use Rattle.clap.specs.declared.error.kind.ErrorKind.{ErrorKind}
use Rattle.clap.specs.declared.error.kind.ErrorKind.TheVariants as kind
use Rattle.fisca_grid.specs.Words.{part_of}
use Rattle.fisca_forms.specs.declared.form.Format.{Format}
use Rattle.fisca_forms.specs.declared.form.Format.TheVariants.{Jsonl}
use Rattle.fisca_command_line.specs.Asked.{explain_format_of, format_of, is_set}
use Rattle.fisca_command_line.specs.CommandLine.{fisca_app}
use Rattle.fisca_command_line.specs.declared.misuse.Misuse.{Misuse}
use Rattle.fisca_command_line.specs.declared.misuse.Misuse.TheVariants as misuse

-- what `clap` would call it
abbrev pub kind_of : Misuse → ErrorKind
kind_of misuse.BadPart = kind.ValueValidation
kind_of misuse.PartWithFrom = kind.ArgumentConflict
kind_of misuse.PartWithTo = kind.ArgumentConflict
kind_of misuse.BadFormat = kind.InvalidValue
kind_of misuse.BadExplainFormat = kind.InvalidValue
kind_of misuse.HeaderWithJson = kind.ArgumentConflict

-- a part that is none, or one beside a start or a stop of its own
abbrev pub range_misuse : Option Text → Bool → Bool → Option Misuse
range_misuse None has_from has_to = None
range_misuse (Some text) has_from has_to =
    if is_some (part_of text) then (if has_from then Some misuse.PartWithFrom else (if has_to then Some misuse.PartWithTo else None)) else Some misuse.BadPart

-- a form that is none, or a first line before those of JSON, which name their cells
abbrev pub misuse_beside : Bool → Option Format → Option Misuse
misuse_beside has_header None = Some misuse.BadFormat
misuse_beside has_header (Some Jsonl) = if has_header then Some misuse.HeaderWithJson else None
misuse_beside has_header (Some _) = None

abbrev pub form_misuse : Option Text → Bool → Option Misuse
form_misuse None has_header = None
form_misuse (Some text) has_header = misuse_beside has_header (format_of text)

-- the first misuse of the options of a range and of a form
abbrev pub options_misuse : List Row → Option Misuse
options_misuse rows =
    option_or
    (range_misuse (first_of (codes "part") rows) (is_some (first_of (codes "from") rows)) (is_some (first_of (codes "to") rows)))
    (form_misuse (first_of (codes "format") rows) (is_set (first_of (codes "header") rows)))

-- a form that is none of an explanation
abbrev pub explain_form_misuse : Option Text → Option Misuse
explain_form_misuse None = None
explain_form_misuse (Some text) = if is_some (explain_format_of text) then None else Some misuse.BadExplainFormat

abbrev pub explain_misuse : List Row → Option Misuse
explain_misuse rows = explain_form_misuse (first_of (codes "format") rows)

-- the commands that have these options
abbrev pub takes_options : Text → Bool
takes_options name = bytes_eq name (codes "run") || (bytes_eq name (codes "axes") || (bytes_eq name (codes "calc") || bytes_eq name (codes "list")))

-- the misuse of the options of the command with this name
abbrev pub misuse_under : Text → List Row → Option Misuse
misuse_under name rows = if takes_options name then options_misuse rows else (if bytes_eq name (codes "explain") then explain_misuse rows else None)

-- the misuse in the matches of a command
abbrev pub misuse_of : Option (Text × List Row) → Option Misuse
misuse_of None = None
misuse_of (Some command) = misuse_under command.0 command.1

abbrev pub misuse_kinds : Option Misuse → Kinds
misuse_kinds None = []
misuse_kinds (Some m) = kind_of m ∷ []

-- the kinds of error that the words may give: those of `clap`, and else of a misuse
abbrev pub usage_fault : List Text → Kinds
usage_fault words = or_else (fault_of fisca_app words) (misuse_kinds (misuse_of (subcommand_of fisca_app words)))
