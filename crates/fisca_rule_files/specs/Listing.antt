-- What is listed of a rule set: a line for each variable, in the order in which its modules declare them, which is that of their paths and of the lines in
-- each. A line has eight cells, all of them texts.
use Rattle.std.specs.Prelude.{ℕ, ◌+◌, List, [], ◌∷◌, ◌++◌, map, codes, slice_get, Option, Some, None}
use Rattle.std.specs.Fmt.{decimal}
use Rattle.std.specs.declared.convert.Infallible.{Infallible}
use Rattle.fisca_declarations.specs.VariableForms.{Written}
use Rattle.fisca_folder.specs.Shown.{shown}
use Rattle.fisca_forms.specs.Forms.{quoted}
use Rattle.fisca_forms.specs.LineForms.{Form, line_in}
use Rattle.fisca_params.specs.Source.{Source}
use Rattle.fisca_rules.specs.Rules.{DatedFormula, Rules}
use Rattle.fisca_symbols.specs.declared.choices.Choices.{Choices}
use Rattle.fisca_symbols.specs.declared.entity.Entity.{Entity}
use Rattle.fisca_symbols.specs.declared.variable.DeclaredType.{DeclaredType}
use Rattle.fisca_symbols.specs.declared.variable.DeclaredType.TheVariants as type
use Rattle.fisca_symbols.specs.declared.variable.Variable.{Variable}
use Rattle.fisca_time.specs.PeriodText.{date_text}
use Rattle.fisca_time.specs.declared.unit.Unit.{Unit}
use Rattle.fisca_time.specs.declared.unit.Unit.TheVariants as unit
use Rattle.fisca_writer.specs.Row.{Row, Nothing, Line}

-- the names of the cells
abbrev pub list_names : List (List ℕ)
list_names =
    codes "variable" ∷ codes "entity" ∷ codes "value_type" ∷ codes "definition_period" ∷ codes "formulas" ∷ codes "unit" ∷ codes "label" ∷ codes "declared" ∷ []

-- what is told of a variable, in one line, and nothing where nothing is told
abbrev pub text_told : Option (List ℕ) → List ℕ
text_told None = []
text_told (Some t) = shown t

-- an entity by its key
abbrev pub entity_text : Option Entity → List ℕ
entity_text None = []
entity_text (Some e) = shown e.key

-- an Enum by its name
abbrev pub enum_text : Option Choices → List ℕ
enum_text None = []
enum_text (Some e) = shown e.name

-- a type as modules write it, but an Enum by its own name
abbrev pub type_text : List Choices → DeclaredType → List ℕ
type_text es type.Float = codes "float"
type_text es type.Int = codes "int"
type_text es type.Bool = codes "bool"
type_text es type.Date = codes "date"
type_text es type.Text = codes "str"
type_text es (type.Enum e) = enum_text (slice_get es e)

-- a definition period in small letters
abbrev pub period_text : Unit → List ℕ
period_text unit.Day = codes "day"
period_text unit.Month = codes "month"
period_text unit.Year = codes "year"
period_text unit.Eternity = codes "eternity"

-- the first days of formulas, each behind a space
abbrev pub starts_text : List DatedFormula → List ℕ
starts_text [] = []
starts_text (d ∷ ds) = codes " " ++ (date_text d.start ++ starts_text ds)

-- the first days of the formulas of a variable from top to bottom; one without formulas has inputs alone
abbrev pub formulas_text : List DatedFormula → List ℕ
formulas_text [] = codes "input"
formulas_text (d ∷ ds) = date_text d.start ++ starts_text ds

-- the formulas at a place, if it has some
abbrev pub formulas_in : Option (List DatedFormula) → List DatedFormula
formulas_in None = []
formulas_in (Some ds) = ds

-- a module by its path
abbrev pub path_text : Option Source → List ℕ
path_text None = []
path_text (Some f) = shown f.path

-- the module and the line on which a variable begins
abbrev pub place_text : List Source → ℕ → ℕ → List ℕ
place_text modules place line = path_text (slice_get modules place) ++ (codes ":" ++ decimal line)

-- what the declaration of a variable says: its unit, its label, and where it stands
abbrev pub texts_declared : List Source → Option Written → List (List ℕ)
texts_declared modules None = []
texts_declared modules (Some d) = text_told d.unit ∷ text_told d.label ∷ place_text modules d.module d.line ∷ []

-- the cells of the variable at a place
abbrev pub texts_of : List Source → Rules → ℕ → Variable → List (List ℕ)
texts_of modules r place v =
    shown v.name ∷ entity_text (slice_get r.entities v.entity) ∷ type_text r.enums v.value_type ∷ period_text v.definition_period
    ∷ formulas_text (formulas_in (slice_get r.formulas place)) ∷ texts_declared modules (slice_get r.declarations place)

-- its line
abbrev pub line_of : Form → List Source → Rules → ℕ → Variable → List ℕ
line_of form modules r place v = line_in form (map quoted (texts_of modules r place v))

-- what stands at a position: the line of the variable there
abbrev pub row_by : Form → List Source → Rules → ℕ → Option Variable → Row Infallible
row_by form modules r place None = Nothing
row_by form modules r place (Some v) = Line (line_of form modules r place v)

abbrev pub listed_row : Form → List Source → Rules → ℕ → Row Infallible
listed_row form modules r place = row_by form modules r place (slice_get r.variables place)

-- the lines of these variables, of which the first stands at a place, each with its position
abbrev pub lines_from : Form → List Source → Rules → ℕ → List Variable → List (ℕ × List ℕ)
lines_from form modules r place [] = []
lines_from form modules r place (v ∷ vs) = (place, line_of form modules r place v) ∷ lines_from form modules r (place + 1) vs

-- all lines
abbrev pub listing : Form → List Source → Rules → List (ℕ × List ℕ)
listing form modules r = lines_from form modules r 0 r.variables
