use Rattle.std.proofs.Common.{◌∙◌, sym, subst}
use Rattle.fisca_grid.specs.FormedRow.{formed_row}
use Rattle.fisca_grid.specs.Grid.{size_of}
use Rattle.fisca_writer.specs.Run.{IsRun}
use Rattle.fisca_commands.proofs.Ranged.{shown_none, shown_some}
use Rattle.fisca_commands.specs.AxesRun.{FilteredAxes, axes_row_in}
use Rattle.fisca_commands.proofs.axes.run_rows.Goals as goal

pub returns-then-is_plain-clause-run : goal.returns-then-is_plain-clause-run
returns-then-is_plain-clause-run g c =
    let r = c.args.rows in
    let run : FilteredAxes = record { axes = r.axes; keep = r.keep } in
    subst (λ o. IsRun (axes_row_in o run) (size_of r.axes) c.args.from c.args.limit (g.S.RowSink.taken c.args.sink.now) (g.S.RowSink.taken c.write_lines.new.sink) c.write_lines.result)
    (sym (shown_none c.args.form (sym c.is_plain.ensures ∙ c.if-is_plain.true))) c.write_lines.ensures.run

pub returns-clause-run : goal.returns-clause-run
returns-clause-run g c =
    let r = c.args.rows in
    let run : FilteredAxes = record { axes = r.axes; keep = r.keep } in
    let formed = c.in_form-rows.result in
    let old = g.S.RowSink.taken c.args.sink.now in
    let new = g.S.RowSink.taken c.write_lines-2.new.sink in
    subst (λ o. IsRun (axes_row_in o run) (size_of r.axes) c.args.from c.args.limit old new c.write_lines-2.result)
    (sym (shown_some c.args.form (sym c.is_plain.ensures ∙ c.if-is_plain.false)))
    (subst (λ form. IsRun (formed_row form r.axes r.keep) (size_of r.axes) c.args.from c.args.limit old new c.write_lines-2.result) c.in_form-rows.ensures.form
    (subst (λ keep. IsRun (formed_row formed.form r.axes keep) (size_of r.axes) c.args.from c.args.limit old new c.write_lines-2.result) c.in_form-rows.ensures.keep
    (subst (λ axes. IsRun (formed_row formed.form axes formed.keep) (size_of axes) c.args.from c.args.limit old new c.write_lines-2.result) c.in_form-rows.ensures.axes
    c.write_lines-2.ensures.run)))
