-- The line of a position in a form: the cells of its number, of the values of the axes and of those of the columns.
use Rattle.std.specs.Prelude.{ℕ, List, [], ◌∷◌, ◌++◌, map, Option, Some, None, Result, Ok, Err}
use Rattle.std.specs.Fmt.{decimal}
use Rattle.fisca_columns.specs.Formed.{value_cell}
use Rattle.fisca_forms.specs.Forms.{Cell, Places, bare}
use Rattle.fisca_forms.specs.LineForms.{Form, line_in}
use Rattle.fisca_inputs.specs.declared.given.Given.{Given}
use Rattle.fisca_model.specs.Tables.{Tables}
use Rattle.fisca_model.specs.declared.key.Key.{Key}
use Rattle.fisca_model.specs.declared.value.Value.{Value}
use Rattle.fisca_num.specs.Results.{and_then}
use Rattle.fisca_rows.specs.declared.condition.Condition.{Condition}
use Rattle.fisca_writer.specs.Row.{Row, Line, Fault}
use Rattle.fisca_rows.specs.Met.{all_met}
use Rattle.fisca_rows.specs.Lines.{as_row, front_of, if_met, with_columns}

-- the cells of the position and of the values of the axes
abbrev pub front_cells : Tables → Option Places → ℕ → List Given → List Cell
front_cells c decimals position moved = bare (decimal position) ∷ map (λ (g : Given). value_cell c decimals g.variable g.value) moved

-- the cells of columns, or the first fault of a column
abbrev pub column_cells : {F : Type 0} → Tables → Option Places → (Key → Result Value F) → List Key → Result (List Cell) F
column_cells c decimals answer [] = Ok []
column_cells c decimals answer (k ∷ ks) = and_then (answer k) (λ w. and_then (column_cells c decimals answer ks) (λ cells. Ok (value_cell c decimals k.variable w ∷ cells)))

abbrev pub as_formed_row : {F : Type 0} → Form → List Cell → Result (List Cell) F → Row F
as_formed_row form front (Ok cells) = Line (line_in form (front ++ cells))
as_formed_row form front (Err f) = Fault f

-- what stands at a position where all conditions hold
abbrev pub formed_line : {F : Type 0} → Form → Tables → (Key → Result Value F) → List Key → ℕ → List Given → Row F
formed_line form c answer columns position moved = as_formed_row form (front_cells c form.decimals position moved) (column_cells c form.decimals answer columns)

-- the same in the plain form, or in the one that is given
abbrev pub line_row_in : {F : Type 0} → Option Form → Tables → (Key → Result Value F) → List Key → ℕ → List Given → Row F
line_row_in None c answer columns position moved = as_row (with_columns c answer columns (front_of c position moved))
line_row_in (Some form) c answer columns position moved = formed_line form c answer columns position moved

-- what stands at a position: its line where all conditions hold
abbrev pub asked_row_in : {F : Type 0} → Option Form → Tables → (Key → Result Value F) → List Condition → List Key → ℕ → List Given → Row F
asked_row_in form c answer conditions columns position moved = if_met (all_met answer conditions) (line_row_in form c answer columns position moved)
