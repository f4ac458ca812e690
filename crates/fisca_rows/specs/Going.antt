-- Rows of a run that goes on where a key has no value: the word of the fault stands in the cell.
use Rattle.std.specs.Prelude.{ℕ, zero, suc, Bool, true, false, is_err, List, [], ◌∷◌, ◌++◌, length, map, Option, Some, None, Result, Ok, Err}
use Rattle.std.specs.List.{list_any}
use Rattle.fisca_columns.specs.Formed.{value_cell}
use Rattle.fisca_forms.specs.Forms.{Cell, Places, quoted}
use Rattle.fisca_forms.specs.LineForms.{Form, line_in}
use Rattle.fisca_inputs.specs.declared.given.Given.{Given}
use Rattle.fisca_model.specs.EvalFaults.{name_of}
use Rattle.fisca_model.specs.Tables.{Tables}
use Rattle.fisca_model.specs.declared.eval_fault.EvalFault.{EvalFault}
use Rattle.fisca_model.specs.declared.key.Key.{Key}
use Rattle.fisca_model.specs.declared.value.Value.{Value}
use Rattle.fisca_rows.specs.declared.condition.Condition.{Condition}
use Rattle.fisca_writer.specs.Row.{Row, Nothing, Line}
use Rattle.fisca_rows.specs.Asked.{keys_asked, keys_met}
use Rattle.fisca_rows.specs.Met.{all_met}
use Rattle.fisca_rows.specs.FormedLines.{asked_row_in, front_cells}
use Rattle.fisca_rows.specs.declared.style.RowStyle.{RowStyle}
use Rattle.fisca_rows.specs.declared.style.RowStyle.TheVariants.{Plain, Formed, Going}

-- the cell of a value, or of the word of the fault for which there is none
abbrev pub told_cell : Tables → Option Places → ℕ → Result Value EvalFault → Cell
told_cell c decimals place (Ok w) = value_cell c decimals place w
told_cell c decimals place (Err f) = quoted (name_of f)

abbrev pub told_cells : Tables → Option Places → (Key → Result Value EvalFault) → List Key → List Cell
told_cells c decimals answer = map (λ (k : Key). told_cell c decimals k.variable (answer k))

-- so many empty cells
abbrev pub empty_cells : ℕ → List Cell
empty_cells zero = []
empty_cells (suc count) = quoted [] ∷ empty_cells count

-- so many cells of columns: the word of a condition stands in the first, and the others are empty
abbrev pub word_cells : List ℕ → ℕ → List Cell
word_cells word zero = []
word_cells word (suc count) = quoted word ∷ empty_cells count

abbrev pub going_line : Form → Tables → ℕ → List Given → List Cell → Row EvalFault
going_line form c position moved cells = Line (line_in form (front_cells c form.decimals position moved ++ cells))

-- what stands at a position, by what its conditions came to
abbrev pub going_row_by : Result Bool EvalFault → Form → Tables → (Key → Result Value EvalFault) → List Key → ℕ → List Given → Row EvalFault
going_row_by (Ok true) form c answer columns position moved = going_line form c position moved (told_cells c form.decimals answer columns)
going_row_by (Ok false) form c answer columns position moved = Nothing
going_row_by (Err f) form c answer columns position moved = going_line form c position moved (word_cells (name_of f) (length columns))

abbrev pub going_row : Form → Tables → (Key → Result Value EvalFault) → List Condition → List Key → ℕ → List Given → Row EvalFault
going_row form c answer conditions = going_row_by (all_met answer conditions) form c answer

-- what stands at a position in a style
abbrev pub styled_row : RowStyle → Tables → (Key → Result Value EvalFault) → List Condition → List Key → ℕ → List Given → Row EvalFault
styled_row Plain = asked_row_in None
styled_row (Formed form) = asked_row_in (Some form.now)
styled_row (Going form) = going_row form.now

-- the columns are asked for where all conditions hold
abbrev pub columns_if_met : Result Bool EvalFault → List Key → List Key
columns_if_met (Ok true) keys = keys
columns_if_met (Ok false) keys = []
columns_if_met (Err f) keys = []

-- the keys that a row asks for in a style: a run that goes on asks for all columns
abbrev pub keys_styled : RowStyle → (Key → Result Value EvalFault) → List Condition → List Key → List Key
keys_styled Plain answer conditions columns = keys_asked answer conditions columns
keys_styled (Formed form) answer conditions columns = keys_asked answer conditions columns
keys_styled (Going form) answer conditions columns = keys_met answer conditions ++ columns_if_met (all_met answer conditions) columns

-- a row has a word in the place of a value
abbrev pub lacks_by : Result Bool EvalFault → (Key → Result Value EvalFault) → List Key → Bool
lacks_by (Ok true) answer columns = list_any (λ k. is_err (answer k)) columns
lacks_by (Ok false) answer columns = false
lacks_by (Err f) answer columns = true

abbrev pub lacks_in : RowStyle → (Key → Result Value EvalFault) → List Condition → List Key → Bool
lacks_in Plain answer conditions columns = false
lacks_in (Formed form) answer conditions columns = false
lacks_in (Going form) answer conditions columns = lacks_by (all_met answer conditions) answer columns
