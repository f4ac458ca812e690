-- The line of a position: its number, the values of the axes, and those of the columns, with tabs between them, and a line feed.
use Rattle.std.specs.Prelude.{ℕ, List, [], ◌∷◌, ◌++◌, Bool, true, false, Result, Ok, Err}
use Rattle.std.specs.Fmt.{decimal}
use Rattle.fisca_columns.specs.Texts.{value_text}
use Rattle.fisca_grid.specs.AxesRow.{tab, line_feed}
use Rattle.fisca_inputs.specs.declared.given.Given.{Given}
use Rattle.fisca_model.specs.declared.value.Value.{Value}
use Rattle.fisca_model.specs.declared.key.Key.{Key}
use Rattle.fisca_writer.specs.Row.{Row, Nothing, Line, Fault}
use Rattle.fisca_num.specs.Results.{and_then}
use Rattle.fisca_rows.specs.Met.{all_met}
use Rattle.fisca_rows.specs.declared.condition.Condition.{Condition}
use Rattle.fisca_model.specs.Tables.{Tables}

-- a tab, and the value of the variable at a place
abbrev pub cell : Tables → ℕ → Value → List ℕ
cell c x w = tab ∷ value_text c x w

-- a text with the cells of inputs behind it
abbrev pub with_moved : Tables → List Given → List ℕ → List ℕ
with_moved c [] text = text
with_moved c (g ∷ gs) text = with_moved c gs (text ++ cell c g.variable g.value)

-- a text with the cells of columns behind it, or the first fault of a column
abbrev pub with_columns : {F : Type 0} → Tables → (Key → Result Value F) → List Key → List ℕ → Result (List ℕ) F
with_columns c answer [] text = Ok text
with_columns c answer (k ∷ ks) text = and_then (answer k) (λ w. with_columns c answer ks (text ++ cell c k.variable w))

-- the position and the values of the axes
abbrev pub front_of : Tables → ℕ → List Given → List ℕ
front_of c position moved = with_moved c moved (decimal position)

abbrev pub as_row : {F : Type 0} → Result (List ℕ) F → Row F
as_row (Ok text) = Line (text ++ line_feed ∷ [])
as_row (Err f) = Fault f

-- a row where all conditions hold, nothing where one does not, and the fault before that
abbrev pub if_met : {F : Type 0} → Result Bool F → Row F → Row F
if_met (Ok true) row = row
if_met (Ok false) row = Nothing
if_met (Err f) row = Fault f

-- What stands at a position, where axes move these inputs and keys have these answers: the conditions are worked out first, and the columns where all
-- of them hold.
abbrev pub asked_row : {F : Type 0} → Tables → (Key → Result Value F) → List Condition → List Key → ℕ → List Given → Row F
asked_row c answer conditions columns position moved =
    if_met (all_met answer conditions) (as_row (with_columns c answer columns (front_of c position moved)))
