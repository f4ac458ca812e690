use Rattle.std.proofs.Common.{◌≡◌, ◌∙◌, ◌<◌, length, sym, arith}
use Rattle.std.proofs.lemmas.Result.{err_from_is_err_and}
use Rattle.fisca_symbols.specs.Known.{tables as known}
use Rattle.fisca_rows.proofs.Asking.{handed_on, written_fault, written_more, written_part}
use Rattle.fisca_rows.proofs.FormedCells.{written_there}
use Rattle.fisca_rows.proofs.formed_lines.write_column_cells.Goals as goal

pub returns-in_err-value-clause-asked : goal.returns-in_err-value-clause-asked
returns-in_err-value-clause-asked g c =
    let p = err_from_is_err_and c.from_residual.result c.from_residual.ensures.1 in
    let i = c.loop-place.invariant in
    let columns = c.args.columns.now in
    let place = c.loop-place.place in
    let inside : place < length columns = omega arith in
    handed_on g.A.Answers.worked g.A.Answers.refused _ _ _ c.from_residual.result p.0 c.in_err-value.field-0.0 p.1 p.2
    (written_fault g.A.Answers.worked g.A.Answers.refused (g.A.Answers.answer c.args.answers.now) columns place _ c.in_err-value.field-0.0 _ _ _ _ c.index-columns-place.is inside i.same
    c.in_err-value.ensures.answered c.in_err-value.ensures.step i.asked)

pub returns-then-is_err-clause-asked : goal.returns-then-is_err-clause-asked
returns-then-is_err-clause-asked g c =
    let i = c.loop-place.invariant in
    let columns = c.args.columns.now in
    let place = c.loop-place.place in
    let inside : place < length columns = omega arith in
    written_part g.A.Answers.worked g.A.Answers.refused (g.A.Answers.answer c.args.answers.now) columns place _ _ _ _ c.index-columns-place.is inside c.in_ok-value.ensures.step i.asked

pub loop-place-preserved : goal.loop-place-preserved
loop-place-preserved g c =
    let i = c.loop-place.invariant in
    let columns = c.args.columns.now in
    let place = c.loop-place.place in
    let inside : place < length columns = omega arith in
    record {
      ready = c.in_ok-value.ensures.ready;
      same = c.in_ok-value.ensures.same_answers ∙ i.same;
      members = c.in_ok-value.ensures.same_members ∙ i.members;
      written = written_there c.args.form.now (known c.args.tables.now) (g.A.Answers.answer c.args.answers.now) columns c.args.first place _ c.in_ok-value.value _ _ _ _ c.write_value_cell-cell.result
          c.index-columns-place.is inside i.same c.in_ok-value.ensures.answered i.written (sym c.is_err.ensures.value ∙ c.if-is_err.false) c.write_value_cell-cell.ensures;
      asked = written_more g.A.Answers.worked g.A.Answers.refused (g.A.Answers.answer c.args.answers.now) columns place _ c.in_ok-value.value _ _ _ _ c.index-columns-place.is inside i.same
          c.in_ok-value.ensures.answered c.in_ok-value.ensures.step i.asked;
    }
