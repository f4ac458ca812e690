-- Values as cells of a form of lines, and the lines of columns in a form.
use Rattle.std.specs.Prelude.{ℕ, List, [], ◌∷◌, ◌++◌, slice_get, Option, Some, None, Result, Ok, Err}
use Rattle.std.specs.Fmt.{decimal}
use Rattle.fisca_columns.specs.Lines.{line_of, tab}
use Rattle.fisca_columns.specs.Steps.Texts.{name_of, member_of}
use Rattle.fisca_columns.specs.Texts.{value_text}
use Rattle.fisca_forms.specs.Forms.{Cell, Places, bare, quoted}
use Rattle.fisca_forms.specs.LineForms.{Form, line_in, number_cell}
use Rattle.fisca_groups.specs.declared.entity_members.EntityMembers.{EntityMembers}
use Rattle.fisca_model.specs.Tables.{Tables}
use Rattle.fisca_model.specs.declared.key.Key.{Key}
use Rattle.fisca_model.specs.declared.value.Value.{Value}
use Rattle.fisca_model.specs.declared.value.Value.TheVariants as v
use Rattle.fisca_time.specs.PeriodText.{text_of as period_text}
use Rattle.fisca_writer.specs.Row.{Row, Nothing, Line, Fault}

-- the cell of a value of the variable at a place
abbrev pub value_cell : Tables → Option Places → ℕ → Value → Cell
value_cell c decimals place (v.Number n) = number_cell decimals n
value_cell c decimals place (v.Bool b) = bare (value_text c place (v.Bool b))
value_cell c decimals place (v.Member i) = quoted (value_text c place (v.Member i))

-- the number that leads a line, if there is one: as a cell, and as a text before a tab
abbrev pub lead_cells : Option ℕ → List Cell
lead_cells None = []
lead_cells (Some number) = bare (decimal number) ∷ []

abbrev pub lead_text : Option ℕ → List ℕ
lead_text None = []
lead_text (Some number) = decimal number ++ tab

-- the line of a key's value: the cells of the variable, the member's name, the period and the value
abbrev pub formed_line_of : Form → Option ℕ → Tables → List EntityMembers → Key → Value → List ℕ
formed_line_of form lead c ms k v =
    let x = slice_get c.variables k.variable in
    line_in form (lead_cells lead ++ (quoted (name_of x) ∷ quoted (member_of ms k.member x) ∷ quoted (period_text k.period) ∷ value_cell c form.decimals k.variable v ∷ []))

-- the plain line behind the number that leads it, or the line in the form that is given
abbrev pub line_of_in : Option Form → Option ℕ → Tables → List EntityMembers → Key → Value → List ℕ
line_of_in None lead c ms k v = lead_text lead ++ line_of c ms k v
line_of_in (Some form) lead c ms k v = formed_line_of form lead c ms k v

-- the line of a key's value, or the fault that is its answer
abbrev pub row_of : {F : Type 0} → Option Form → Option ℕ → Tables → List EntityMembers → Key → Result Value F → Row F
row_of form lead c ms k (Ok v) = Line (line_of_in form lead c ms k v)
row_of form lead c ms k (Err f) = Fault f

abbrev pub row_by : {F : Type 0} → Option Form → Option ℕ → Tables → List EntityMembers → (Key → Result Value F) → Option Key → Row F
row_by form lead c ms answer None = Nothing
row_by form lead c ms answer (Some k) = row_of form lead c ms k (answer k)

-- what stands at a position: the line of the column there, or its fault
abbrev pub column_row_in : {F : Type 0} → Option Form → Option ℕ → Tables → List EntityMembers → (Key → Result Value F) → List Key → ℕ → Row F
column_row_in form lead c ms answer ks position = row_by form lead c ms answer (slice_get ks position)
