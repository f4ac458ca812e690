use Rattle.std.proofs.Common.{◌≡◌, ◌+◌, ◌-◌, ◌++◌, suc, [], string_bytes, refl, sym, ap, ◌∙◌, arith}
use Rattle.fisca_forms.specs.Forms.{quoted}
use Rattle.fisca_forms.specs.LineForms.{cells_from}
use Rattle.fisca_columns.proofs.Cells.{one_more}
use Rattle.fisca_rows.specs.Going.{empty_cells}
use Rattle.fisca_rows.proofs.going.write_empty_cells.Goals as goal

pub loop-place-preserved : goal.loop-place-preserved
loop-place-preserved c =
    let form = c.args.form.now in
    let p = c.loop-place.place in
    let to = c.args.to in
    let old = string_bytes c.loop-place.line in
    let new = string_bytes c.write_cell.new.line in
    let some : to - p ≡ suc (to - suc p) = omega (arith, c.loop-place-test.true) in
    let next : suc p ≡ p + 1 = omega arith in
    c.loop-place.invariant
    ∙ (ap (λ n. old ++ cells_from form.format form.names p (empty_cells n)) some
    ∙ (sym (one_more form.format form.names old new p (suc p) (quoted []) (empty_cells (to - suc p)) c.in_ok-write_cell.ensures refl)
    ∙ ap (λ n. new ++ cells_from form.format form.names n (empty_cells (to - n))) next))
