use Rattle.std.proofs.Common.{◌∙◌, ◌+◌, length, string_bytes, sym}
use Rattle.fisca_situations.proofs.Asking.{some_all, some_none}
use Rattle.fisca_symbols.specs.Known.{tables as known}
use Rattle.fisca_rows.specs.FormedLines.{front_cells}
use Rattle.fisca_rows.specs.Asked.{keys_written}
use Rattle.fisca_rows.proofs.FormedCells.{count_front, where_ok, whole_line}
use Rattle.fisca_rows.proofs.formed_lines.write_formed_line.Goals as goal

pub returns-then-is_err-clause-asked : goal.returns-then-is_err-clause-asked
returns-then-is_err-clause-asked g c =
    some_none g.A.Answers.worked g.A.Answers.refused c.args.answers.now (keys_written (g.A.Answers.answer c.args.answers.now) c.args.asked.now.columns.now)

pub returns-in-Ok-clause-written : goal.returns-in-Ok-clause-written
returns-in-Ok-clause-written g c =
    let form = c.args.form.now in
    let asked = c.args.asked.now in
    let front = front_cells (known c.args.tables.now) form.decimals asked.position asked.moved.now in
    whole_line form (known c.args.tables.now) (g.A.Answers.answer c.args.answers.now) asked.columns.now front (length asked.moved.now + 1) _ _ _ _ c.requires.line
    (where_ok c.write_front_cells.result (sym c.is_err.ensures.value ∙ c.if-is_err.false) c.write_front_cells.ensures) (count_front (known c.args.tables.now) form.decimals asked.position asked.moved.now) c.in_ok-write_column_cells.ensures.written c.in-Ok.ensures

pub returns-clause-asked : goal.returns-clause-asked
returns-clause-asked g c =
    some_all g.A.Answers.worked g.A.Answers.refused _ _ (keys_written (g.A.Answers.answer c.args.answers.now) c.args.asked.now.columns.now) c.in_ok-write_column_cells.ensures.asked
