-- What `fisca list` answers and writes.
use Rattle.std.specs.Prelude.{◌≡◌, ◌⊎◌, ℕ, List, Option, Result, Ok, Err}
use Rattle.std.specs.Io.KnownBytes.{Appends, Keeps}
use Rattle.fisca_rule_files.specs.Listing.{list_names, listing}
use Rattle.fisca_params.specs.Source.{Source}
use Rattle.fisca_params.specs.Steps.Files.{in_path_order}
use Rattle.fisca_rules.specs.Rules.{Rules}
use Rattle.fisca_writer.specs.Run.{IsBrokenOff, texts}
use Rattle.fisca_writer.specs.declared.fault.RunFault.TheVariants as run
use Rattle.fisca_rule_files.specs.RuleFiles.{IsAccepted, RefusesFiles}
use Rattle.fisca_rule_files.specs.Steps.Modules.{modules_in}
use Rattle.fisca_rule_files.specs.declared.refusal.Refusal.{Refusal}
use Rattle.fisca_rule_files.specs.declared.refusal.Refusal.TheVariants.{Run}
use Rattle.fisca_commands.specs.Calc.{WritesFirst}
use Rattle.fisca_grid_run.specs.Forms.{IsHeaderRefused, header_of, line_form_of}
use Rattle.fisca_command_line.specs.declared.options.TableForm.{TableForm}

-- what is answered of these lines, and what a sink that held `old` then holds: all are written; or the sink failed in one of them; or memory was
-- refused, and the first are written
abbrev pub AreListed : List (ℕ × List ℕ) → Option (List ℕ) → Option (List ℕ) → Result Unit Refusal → Type 0
AreListed lines old new (Ok done) = Appends old new (texts lines)
AreListed lines old new (Err refusal) =
    ((position : ℕ) × (refusal ≡ Run (run.Write position)) × IsBrokenOff position lines old new)
    ⊎ ((position : ℕ) × (refusal ≡ Run (run.Memory position)) × WritesFirst lines old new)

-- the line of the names is not written whole, where it is asked for, or it is, and then the lines of the variables; or memory was refused before
abbrev pub IsListedIn : List Source → Rules → TableForm → Option (List ℕ) → Option (List ℕ) → Result Unit Refusal → Type 0
IsListedIn modules rules form old new answer =
    ((refusal : Refusal) × (answer ≡ Err refusal) × IsHeaderRefused form list_names old new refusal)
    ⊎ ((between : Option (List ℕ)) × Appends old between (header_of form list_names) × AreListed (listing (line_form_of form list_names) modules rules) between new answer)

-- what `list` answers for these files and this form, and what a sink that held `old` then holds: the files are refused and nothing is written, or the
-- lines of their variables are written in order
abbrev pub IsList : List Source → TableForm → Option (List ℕ) → Option (List ℕ) → Result Unit Refusal → Type 0
IsList files form old new answer =
    ((refusal : Refusal) × (answer ≡ Err refusal) × RefusesFiles files refusal × Keeps old new)
    ⊎ ((rules : Rules) × IsAccepted files rules × IsListedIn (modules_in (in_path_order files)) rules form old new answer)
