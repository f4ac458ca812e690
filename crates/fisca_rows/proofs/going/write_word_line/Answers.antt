use Rattle.std.proofs.Common.{◌+◌, length, string_bytes, sym}
use Rattle.fisca_symbols.specs.Known.{tables as known}
use Rattle.fisca_rows.proofs.GoingCells.{front_length, line_whole, on_ok}
use Rattle.fisca_rows.specs.FormedLines.{front_cells}
use Rattle.fisca_rows.specs.Going.{word_cells}
use Rattle.fisca_rows.proofs.going.write_word_line.Goals as goal

pub returns : goal.returns
returns c =
    let t = known c.args.tables.now in
    let form = c.args.form.now in
    let asked = c.args.asked.now in
    let front = front_cells t form.decimals asked.position asked.moved.now in
    let words = word_cells c.args.word.now (length asked.columns.now) in
    on_ok c.write_end.result
    (line_whole form.format form.names front words (length asked.moved.now + 1)
    (string_bytes c.args.line.now) (string_bytes c.write_front_cells.new.line) (string_bytes c.write_word_cells.new.line) (string_bytes c.write_end.new.line)
    c.requires (sym (front_length t form.decimals asked.position asked.moved.now)) c.in_ok-write_front_cells.ensures c.in_ok-write_word_cells.ensures)
    c.write_end.ensures
