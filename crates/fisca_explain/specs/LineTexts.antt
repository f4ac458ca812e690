-- A line of an explanation, as a text for readers and as cells.
use Rattle.std.specs.Prelude.{ℕ, zero, suc, List, [], ◌∷◌, ◌++◌, codes, if◌then◌else◌, Option, Some, None, string_bytes, true, false}
use Rattle.std.specs.Fmt.{decimal}
use Rattle.std.specs.Str.{bytes_eq}
use Rattle.fisca_forms.specs.Forms.{Cell, bare, cell_in, closing, quoted}
use Rattle.fisca_forms.specs.LineForms.{Form, before_cell, name_at}
use Rattle.fisca_explain.specs.declared.line.Kind.{Kind}
use Rattle.fisca_explain.specs.declared.line.Kind.TheVariants as kind
use Rattle.fisca_explain.specs.declared.line.Line.{Line}
use Rattle.fisca_explain.specs.declared.line.Source.{Source}
use Rattle.fisca_explain.specs.declared.line.Source.TheVariants as source

-- What a value comes from

-- for machines
abbrev pub source_word : Source → List ℕ
source_word source.Unfit = codes "unfit"
source_word source.Given = codes "given"
source_word source.Shared = codes "shared"
source_word source.Beside = codes "beside"
source_word source.Default = codes "default"
source_word source.Neutral = codes "neutralised"
source_word source.Formula = codes "formula"
source_word source.Above = codes "above"
source_word source.Parameter = codes "parameter"
source_word source.Scale = codes "scale"

-- for readers
abbrev pub source_phrase : Source → List ℕ
source_phrase source.Unfit = codes "no value at this period"
source_phrase source.Given = codes "input"
source_phrase source.Shared = codes "input"
source_phrase source.Beside = codes "default beside inputs of others"
source_phrase source.Default = codes "default"
source_phrase source.Neutral = codes "neutralised"
source_phrase source.Formula = codes "formula"
source_phrase source.Above = codes "above"
source_phrase source.Parameter = codes "in force"
source_phrase source.Scale = codes "by its brackets"

-- before the period of an input, or before the day from which on a formula or a value is in force
abbrev pub before_since : Source → List ℕ
before_since source.Shared = codes " of "
before_since _ = codes " since "

-- Texts for readers

-- a text behind what stands before it, where there is one
abbrev pub behind : List ℕ → List ℕ → List ℕ
behind before [] = []
behind before (c ∷ cs) = before ++ c ∷ cs

-- two spaces for each key above
abbrev pub indentation : ℕ → List ℕ
indentation zero = []
indentation (suc n) = indentation n ++ codes "  "

abbrev pub kind_word : Kind → List ℕ
kind_word kind.Key = []
kind_word kind.Parameter = codes "parameter "
kind_word kind.Scale = codes "scale "

abbrev pub before_period : Kind → List ℕ
before_period kind.Key = codes " "
before_period kind.Parameter = codes " on "
before_period kind.Scale = codes " on "

-- what is told of a name, where something is
abbrev pub in_brackets : List ℕ → List ℕ
in_brackets [] = []
in_brackets (c ∷ cs) = codes " (" ++ ((c ∷ cs) ++ codes ")")

abbrev pub subject : Line → List ℕ
subject l =
    kind_word l.kind ++ (string_bytes l.name ++ (in_brackets (string_bytes l.label) ++ (behind (codes " ") (string_bytes l.member)
    ++ (behind (before_period l.kind) (string_bytes l.period) ++ behind (codes " of ") (string_bytes l.base)))))

abbrev pub answer_or : List ℕ → List ℕ → List ℕ → List ℕ
answer_or [] value unit = behind (codes " = ") value ++ behind (codes " ") unit
answer_or (c ∷ cs) value unit = codes " has no value, " ++ c ∷ cs

abbrev pub answer : Line → List ℕ
answer l = answer_or l.fault.now (string_bytes l.value) (string_bytes l.unit)

-- the file, where there is one, and what stands before the number of a line
abbrev pub before_number : List ℕ → List ℕ
before_number [] = codes ", line "
before_number (c ∷ cs) = codes ", " ++ ((c ∷ cs) ++ codes ":")

abbrev pub place : List ℕ → Option ℕ → List ℕ
place file None = []
place file (Some number) = before_number file ++ decimal number

-- but for a formula without a date
abbrev pub since : Line → List ℕ
since l = if bytes_eq (string_bytes l.since) (codes "0001-01-01") then [] else behind (before_since l.source) (string_bytes l.since)

abbrev pub origin : Line → List ℕ
origin l =
    behind (codes ": ") (source_phrase l.source) ++ (since l ++ (place (string_bytes l.file) l.line ++ behind (codes ", ") (string_bytes l.reference)))

abbrev pub text_of : Line → List ℕ
text_of l = indentation l.depth ++ (subject l ++ (answer l ++ (origin l ++ codes "\n")))

-- Cells

abbrev pub kind_name : Kind → List ℕ
kind_name kind.Key = codes "key"
kind_name kind.Parameter = codes "parameter"
kind_name kind.Scale = codes "scale"

abbrev pub number_or_none : Option ℕ → Cell
number_or_none None = quoted []
number_or_none (Some n) = bare (decimal n)

-- the cell at a place of the line
abbrev pub cell_at : Form → ℕ → Cell → List ℕ
cell_at form place cell = before_cell form.format place ++ cell_in form.format (name_at form.names place) cell

abbrev pub subject_cells : Form → Line → List ℕ
subject_cells form l =
    cell_at form 0 (bare (decimal l.depth)) ++ (cell_at form 1 (quoted (kind_name l.kind)) ++ (cell_at form 2 (quoted (string_bytes l.name))
    ++ (cell_at form 3 (quoted (string_bytes l.member)) ++ (cell_at form 4 (quoted (string_bytes l.period)) ++ cell_at form 5 (quoted (string_bytes l.base))))))

abbrev pub answer_cells : Form → Line → List ℕ
answer_cells form l =
    cell_at form 6 (record { is_bare = l.is_bare; text = string_bytes l.value }) ++ (cell_at form 7 (quoted l.fault.now) ++ (cell_at form 8 (quoted (source_word l.source))
    ++ (cell_at form 9 (quoted (string_bytes l.since)) ++ (cell_at form 10 (quoted (string_bytes l.file)) ++ cell_at form 11 (number_or_none l.line)))))

abbrev pub told_cells : Form → Line → List ℕ
told_cells form l =
    cell_at form 12 (quoted (string_bytes l.unit)) ++ (cell_at form 13 (quoted (string_bytes l.label)) ++ cell_at form 14 (quoted (string_bytes l.reference)))

-- the names of the cells
abbrev pub explain_names : List (List ℕ)
explain_names =
    codes "depth" ∷ codes "kind" ∷ codes "name" ∷ codes "member" ∷ codes "period" ∷ codes "base" ∷ codes "value" ∷ codes "fault" ∷ codes "source" ∷ codes "since" ∷ codes "file"
    ∷ codes "line" ∷ codes "unit" ∷ codes "label" ∷ codes "reference" ∷ []

abbrev pub cells_text : Form → Line → List ℕ
cells_text form l = subject_cells form l ++ (answer_cells form l ++ (told_cells form l ++ closing form.format))
