-- The values of axes at their places, and the condition on one of them.
use Rattle.std.proofs.Common.{◌≡◌, ℕ, zero, suc, ◌<◌, Bool, true, false, cond, List, [], ◌∷◌, ◌++◌, length, take, Option, Some, None, Result, Ok, Err, IfOk, slice_get, refl, sym, ap, ap₂, ◌∙◌, arith, append_assoc, append-nil, subst}
use Rattle.std.specs.Option.{ForSome}
use Rattle.std.specs.declared.convert.Infallible.{Infallible}
use Rattle.fisca_num.specs.declared.faults.NumFault.{NumFault}
use Rattle.fisca_num.specs.Number.{Number}
use Rattle.fisca_num.specs.Text.{text_of}
use Rattle.fisca_grid.specs.Axes.{step_of}
use Rattle.fisca_grid.specs.AxesRow.{tab, cells, line_of, before_values, values_of, row_of, IsMetBy}
use Rattle.fisca_grid.specs.Steps.AxesRow.{is_kept}
use Rattle.fisca_grid.specs.Condition.{meets}
use Rattle.fisca_writer.specs.Row.{Row, Nothing, Line}
use Rattle.fisca_grid.specs.declared.axes.AxisSpec.{AxisSpec}
use Rattle.fisca_grid.specs.declared.condition.Filter.{Filter}

pub before_some : (o : Result Number NumFault) (p : Option (List Number)) (values : List Number) → before_values o p ≡ Some values → (value : Number) × (more : List Number) × (o ≡ Ok value) × (p ≡ Some more) × (value ∷ more ≡ values)
before_some (Ok value) None values e = absurd (cc)
before_some (Ok value) (Some more) values e = (value, more, refl, refl, cc)
before_some (Err fault) p values e = absurd (cc)

-- the value at an index, and the axis that has it
value_at : (axes : List (AxisSpec × ℕ)) (values : List Number) (index : ℕ) → values_of axes ≡ Some values → index < length axes
    → (at : AxisSpec × ℕ) × (value : Number) × (slice_get axes index ≡ Some at) × (step_of at.0 at.1 ≡ Ok value) × (slice_get values index ≡ Some value)
value_at [] values index e less = absurd (omega arith)
value_at (at ∷ axes) values zero e less =
    let b = before_some (step_of at.0 at.1) (values_of axes) values e in
    (at, b.0, refl, b.2, ap (λ values. slice_get values 0) (sym b.4))
value_at (at ∷ axes) values (suc index) e less =
    let b = before_some (step_of at.0 at.1) (values_of axes) values e in
    let later = value_at axes b.1 index b.3 (omega arith) in
    (later.0, later.1, later.2, later.3, ap (λ values. slice_get values (suc index)) (sym b.4) ∙ later.4)

-- the condition is met as was found without the value
pub met : (keep : Option Filter) (axes : List (AxisSpec × ℕ)) (values : List Number) (answer : Bool) → values_of axes ≡ Some values → ForSome keep (λ filter. filter.axis < length axes) → IsMetBy keep axes answer → answer ≡ is_kept keep values
met None axes values answer e inside found = found
met (Some filter) axes values answer e inside found =
    let v = value_at axes values filter.axis e (inside filter refl) in
    let there = subst (λ (o : Result Number NumFault). IfOk o (λ value. answer ≡ meets filter.condition value)) v.3 (found v.0 v.2) in
    rw v.4 there

pub kept_row : (keep : Option Filter) (axes : List (AxisSpec × ℕ)) (values : List Number) (position : ℕ) → values_of axes ≡ Some values → ForSome keep (λ filter. filter.axis < length axes) → IsMetBy keep axes true → row_of keep position (values_of axes) ≡ Line (line_of position values)
kept_row keep axes values position e inside found =
    ap (row_of keep position) e ∙ ap (λ kept. cond {A = Row Infallible} kept (Line (line_of position values)) Nothing) (sym (met keep axes values true e inside found))

dropped_of : (keep : Option Filter) (axes : List (AxisSpec × ℕ)) (o : Option (List Number)) (position : ℕ) → values_of axes ≡ o → ForSome keep (λ filter. filter.axis < length axes) → IsMetBy keep axes false → row_of keep position o ≡ Nothing
dropped_of keep axes None position e inside found = refl
dropped_of keep axes (Some values) position e inside found = ap (λ kept. cond {A = Row Infallible} kept (Line (line_of position values)) Nothing) (sym (met keep axes values false e inside found))

pub dropped_row : (keep : Option Filter) (axes : List (AxisSpec × ℕ)) (position : ℕ) → ForSome keep (λ filter. filter.axis < length axes) → IsMetBy keep axes false → row_of keep position (values_of axes) ≡ Nothing
dropped_row keep axes position inside found = dropped_of keep axes (values_of axes) position refl inside found

-- one more value
pub values_more : (axes : List (AxisSpec × ℕ)) (index : ℕ) (value : Number) (values : List Number) → index < length axes → ForSome (slice_get axes index) (λ at. step_of at.0 at.1 ≡ Ok value)
    → values_of (take index axes) ≡ Some values → values_of (take (suc index) axes) ≡ Some (values ++ value ∷ [])
values_more [] index value values less there e = absurd (omega arith)
values_more (at ∷ axes) zero value values less there e =
    let none : [] ≡ values = cc in
    ap (λ o. before_values o (Some [])) (there at refl) ∙ ap (λ values. Some (values ++ value ∷ [])) none
values_more (at ∷ axes) (suc index) value values less there e =
    let b = before_some (step_of at.0 at.1) (values_of (take index axes)) values e in
    let later = values_more axes index value b.1 (omega arith) there b.3 in
    ap₂ before_values b.2 later ∙ ap (λ values. Some (values ++ value ∷ [])) b.4

-- the cell of one more value
pub cells_more : (values : List Number) (value : Number) → cells (values ++ value ∷ []) ≡ cells values ++ (tab ∷ text_of value)
cells_more [] value = append-nil (tab ∷ text_of value)
cells_more (first ∷ values) value = ap (λ rest. (tab ∷ text_of first) ++ rest) (cells_more values value) ∙ sym (append_assoc (tab ∷ text_of first) (cells values) (tab ∷ text_of value))
