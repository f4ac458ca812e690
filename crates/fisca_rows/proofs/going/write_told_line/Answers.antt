use Rattle.std.proofs.Common.{◌+◌, ◌∙◌, length, string_bytes, sym}
use Rattle.std.proofs.lemmas.Result.{err_from_is_err_and}
use Rattle.fisca_situations.proofs.Asking.{some_all, some_none}
use Rattle.fisca_symbols.specs.Known.{tables as known}
use Rattle.fisca_rows.proofs.FormedCells.{where_ok}
use Rattle.fisca_rows.proofs.GoingCells.{front_length, line_whole}
use Rattle.fisca_rows.specs.FormedLines.{front_cells}
use Rattle.fisca_rows.specs.Going.{told_cells}
use Rattle.fisca_rows.proofs.going.write_told_line.Goals as goal

pub returns-in_err-write_front_cells-clause-some : goal.returns-in_err-write_front_cells-clause-some
returns-in_err-write_front_cells-clause-some g c =
    rw (err_from_is_err_and c.from_residual.result c.from_residual.ensures.1).1 (some_none g.A.Answers.worked g.A.Answers.refused c.args.answers.now c.args.asked.now.columns.now)

pub returns-then-is_err-clause-some : goal.returns-then-is_err-clause-some
returns-then-is_err-clause-some g c =
    some_all g.A.Answers.worked g.A.Answers.refused c.args.answers.now c.write_told_cells.new.answers c.args.asked.now.columns.now c.in_ok-write_told_cells.ensures.all

pub returns-clause-written : goal.returns-clause-written
returns-clause-written g c =
    let t = known c.args.tables.now in
    let form = c.args.form.now in
    let asked = c.args.asked.now in
    let front = front_cells t form.decimals asked.position asked.moved.now in
    let told = told_cells t form.decimals (g.A.Answers.answer c.args.answers.now) asked.columns.now in
    line_whole form.format form.names front told (length asked.moved.now + 1)
    (string_bytes c.args.line.now) (string_bytes c.write_front_cells.new.line) (string_bytes c.write_told_cells.new.line) (string_bytes c.write_end.new.line)
    c.requires.line (sym (front_length t form.decimals asked.position asked.moved.now)) c.in_ok-write_front_cells.ensures c.in_ok-write_told_cells.ensures.written
    (where_ok c.write_end.result (sym c.is_err.ensures.value ∙ c.if-is_err.false) c.write_end.ensures)
