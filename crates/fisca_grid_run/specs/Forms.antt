-- The forms of lines that options ask for.
use Rattle.std.specs.Prelude.{◌≡◌, ◌⊎◌, ◌||◌, ℕ, List, [], Bool, is_some, Option, Some, None, if◌then◌else◌}
use Rattle.std.specs.Option.{unwrap_or}
use Rattle.std.specs.Io.KnownBytes.{Appends, Keeps}
use Rattle.fisca_forms.specs.LineForms.{Form, is_plain, names_line}
use Rattle.fisca_forms.specs.declared.form.Format.TheVariants.{Tsv}
use Rattle.fisca_rule_files.specs.declared.refusal.Refusal.{Refusal}
use Rattle.fisca_rule_files.specs.declared.refusal.Refusal.TheVariants.{Write, Memory}
use Rattle.fisca_writer.specs.Run.{AppendsPart}
use Rattle.fisca_command_line.specs.declared.options.TableForm.{TableForm}

-- standard output is a table: it has a first line of names, or a form is asked for
abbrev pub is_table : TableForm → Bool
is_table form = form.header || is_some form.format

-- a form is asked for, if only of numbers
abbrev pub is_asked : TableForm → Bool
is_asked form = is_table form || is_some form.decimals

-- names are needed where a form is asked for
abbrev pub asked_names : TableForm → List (List ℕ) → List (List ℕ)
asked_names form names = if is_asked form then names else []

-- the form of lines that are not plain
abbrev pub shown_form : Form → Option Form
shown_form form = if is_plain form then None else Some form

-- the form of each line, with cells of these names
abbrev pub line_form_of : TableForm → List (List ℕ) → Form
line_form_of form names = record { format = unwrap_or form.format Tsv; decimals = form.decimals; names = names }

-- the first line, where it is asked for
abbrev pub header_of : TableForm → List (List ℕ) → List ℕ
header_of form names = if form.header then names_line (unwrap_or form.format Tsv) names else []

-- the sink failed in the first line, or memory was refused before it
abbrev pub IsHeaderRefused : TableForm → List (List ℕ) → Option (List ℕ) → Option (List ℕ) → Refusal → Type 0
IsHeaderRefused form names old new refusal = ((refusal ≡ Write) × AppendsPart (header_of form names) old new) ⊎ ((refusal ≡ Memory) × Keeps old new)

-- a table of lines is begun: its first line is written, where one is asked for, and between its end and `new` stands what follows
abbrev pub IsBegunTable : TableForm → List (List ℕ) → Option (List ℕ) → Option (List ℕ) → Type 0
IsBegunTable form names old between = Appends old between (header_of form (asked_names form names))
