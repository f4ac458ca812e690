-- The lines of a grid's axes in a form.
use Rattle.std.proofs.Common.{◌≡◌, ℕ, suc, ◌+◌, ◌<◌, true, false, cond, List, [], ◌∷◌, ◌++◌, length, take, Option, Some, None, refl, sym, ap, ◌∙◌, arith, append_assoc, append-nil}
use Rattle.std.proofs.lemmas.List.{length-map, length-take-le}
use Rattle.std.specs.Option.{ForSome}
use Rattle.std.specs.declared.convert.Infallible.{Infallible}
use Rattle.fisca_forms.specs.Forms.{Cell, Places, cell_in}
use Rattle.fisca_forms.specs.LineForms.{Form, before_cell, cells_from, name_at, number_cell}
use Rattle.fisca_forms.specs.declared.form.Format.{Format}
use Rattle.fisca_num.specs.Number.{Number}
use Rattle.fisca_grid.specs.Axes.{step_of}
use Rattle.fisca_grid.specs.AxesRow.{IsMetBy, values_of}
use Rattle.fisca_grid.specs.FormedRow.{formed_line, formed_row_of, number_cells}
use Rattle.fisca_grid.specs.declared.axes.AxisSpec.{AxisSpec}
use Rattle.fisca_grid.specs.declared.condition.Filter.{Filter}
use Rattle.fisca_writer.specs.Row.{Row, Nothing, Line}
use Rattle.fisca_grid.proofs.Values.{before_some, met}

-- one more cell of a line
next_cell : (format : Format) (names : List (List ℕ)) (place : ℕ) (cells : List Cell) (cell : Cell) (at : ℕ) → place + length cells ≡ at
    → cells_from format names place (cells ++ cell ∷ []) ≡ cells_from format names place cells ++ (before_cell format at ++ cell_in format (name_at names at) cell)
next_cell format names place [] cell at is =
    let here : place ≡ at = omega (arith, is) in
    ap (λ text. before_cell format place ++ text) (append-nil (cell_in format (name_at names place) cell))
    ∙ ap (λ n. before_cell format n ++ cell_in format (name_at names n) cell) here
next_cell format names place (first ∷ cells) cell at is =
    let before = before_cell format place in
    let text = cell_in format (name_at names place) first in
    let rest = cells_from format names (suc place) cells in
    let last = before_cell format at ++ cell_in format (name_at names at) cell in
    ap (λ more. before ++ (text ++ more)) (next_cell format names (suc place) cells cell at (omega (arith, is)))
    ∙ (ap (λ more. before ++ more) (sym (append_assoc text rest last)) ∙ sym (append_assoc before (text ++ rest) last))

number_cells_more : (decimals : Option Places) (values : List Number) (value : Number) → number_cells decimals (values ++ value ∷ []) ≡ number_cells decimals values ++ number_cell decimals value ∷ []
number_cells_more decimals [] value = refl
number_cells_more decimals (first ∷ values) value = ap (λ cells. number_cell decimals first ∷ cells) (number_cells_more decimals values value)

-- as many values as axes
values_count : (axes : List (AxisSpec × ℕ)) (values : List Number) → values_of axes ≡ Some values → length values ≡ length axes
values_count [] values e = let none : [] ≡ values = cc in ap length (sym none)
values_count (at ∷ axes) values e =
    let b = before_some (step_of at.0 at.1) (values_of axes) values e in
    ap length (sym b.4) ∙ ap suc (values_count axes b.1 b.3)

-- the cell of one more value, behind the cell of the position
pub formed_cells_more : (form : Form) (axes : List (AxisSpec × ℕ)) (index at : ℕ) (values : List Number) (value : Number) (old so_far now : List ℕ) → index < length axes → values_of (take index axes) ≡ Some values → index + 1 ≡ at
    → so_far ≡ old ++ cells_from form.format form.names 1 (number_cells form.decimals values)
    → now ≡ so_far ++ (before_cell form.format at ++ cell_in form.format (name_at form.names at) (number_cell form.decimals value))
    → now ≡ old ++ cells_from form.format form.names 1 (number_cells form.decimals (values ++ value ∷ []))
formed_cells_more form axes index at values value old so_far now less e place is more =
    let count : length (number_cells form.decimals values) ≡ index = length-map values (number_cell form.decimals) ∙ values_count (take index axes) values e ∙ length-take-le index axes (omega (arith, less)) in
    let cells = cells_from form.format form.names 1 (number_cells form.decimals values) in
    let cell = before_cell form.format at ++ cell_in form.format (name_at form.names at) (number_cell form.decimals value) in
    let all = ap (cells_from form.format form.names 1) (number_cells_more form.decimals values value)
    ∙ next_cell form.format form.names 1 (number_cells form.decimals values) (number_cell form.decimals value) at (omega (arith, count, place)) in
    more ∙ (ap (λ text. text ++ cell) is ∙ (append_assoc old cells cell ∙ ap (λ text. old ++ text) (sym all)))

-- the row of values that meet the condition, and of others
pub formed_kept : (form : Form) (keep : Option Filter) (axes : List (AxisSpec × ℕ)) (values : List Number) (position : ℕ) → values_of axes ≡ Some values → ForSome keep (λ filter. filter.axis < length axes) → IsMetBy keep axes true
    → formed_row_of form keep position (values_of axes) ≡ Line (formed_line form position values)
formed_kept form keep axes values position e inside found =
    ap (formed_row_of form keep position) e ∙ ap (λ kept. cond {A = Row Infallible} kept (Line (formed_line form position values)) Nothing) (sym (met keep axes values true e inside found))

formed_out : (form : Form) (keep : Option Filter) (axes : List (AxisSpec × ℕ)) (o : Option (List Number)) (position : ℕ) → values_of axes ≡ o → ForSome keep (λ filter. filter.axis < length axes) → IsMetBy keep axes false
    → formed_row_of form keep position o ≡ Nothing
formed_out form keep axes None position e inside found = refl
formed_out form keep axes (Some values) position e inside found =
    ap (λ kept. cond {A = Row Infallible} kept (Line (formed_line form position values)) Nothing) (sym (met keep axes values false e inside found))

pub formed_dropped : (form : Form) (keep : Option Filter) (axes : List (AxisSpec × ℕ)) (position : ℕ) → ForSome keep (λ filter. filter.axis < length axes) → IsMetBy keep axes false → formed_row_of form keep position (values_of axes) ≡ Nothing
formed_dropped form keep axes position inside found = formed_out form keep axes (values_of axes) position refl inside found
