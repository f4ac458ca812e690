use Rattle.std.proofs.Common.{◌≡◌, string_bytes, rules}
use Rattle.std.proofs.lemmas.Result.{on_ok_weaker}
use Rattle.std.specs.Prelude.{slice_get}
use Rattle.fisca_columns.specs.Formed.{lead_cells, value_cell}
use Rattle.fisca_columns.specs.Steps.Texts.{member_of, name_of}
use Rattle.fisca_forms.specs.Forms.{quoted}
use Rattle.fisca_situations.specs.Steps.Views.{situation}
use Rattle.fisca_symbols.specs.Known.{tables as known}
use Rattle.fisca_time.specs.PeriodText.{text_of as period_text}
use Rattle.fisca_columns.proofs.Cells.{four_more}
use Rattle.fisca_columns.proofs.formed.write_formed_line.Goals as goal

pub returns : goal.returns
returns c =
    let form = c.args.form.now in
    let k = c.args.key.now in
    let members = (situation c.args.situation.now).members in
    let x = slice_get (known c.args.tables.now).variables k.variable in
    let period : c.as_str.result.now ≡ period_text k.period = search rules in
    on_ok_weaker c.write_end.result
    (four_more form.format form.names (string_bytes c.args.line.now) (string_bytes c.write_lead_cell.new.line) (string_bytes c.write_cell.new.line) (string_bytes c.write_cell-2.new.line)
    (string_bytes c.write_cell-3.new.line) (string_bytes c.write_value_cell.new.line) (string_bytes c.write_end.new.line) (lead_cells c.args.lead) c.in_ok-first.first
    (quoted (name_of x)) (quoted (member_of members k.member x)) (quoted (period_text k.period))
    (value_cell (known c.args.tables.now) form.decimals k.variable c.args.value)
    c.in_ok-first.ensures.line c.in_ok-first.ensures.place
    (rw c.names_of.ensures.variable at c.in_ok-write_cell.ensures) (rw c.names_of.ensures.member at c.in_ok-write_cell-2.ensures) (rw period at c.in_ok-write_cell-3.ensures) c.in_ok-write_value_cell.ensures)
    c.write_end.ensures
