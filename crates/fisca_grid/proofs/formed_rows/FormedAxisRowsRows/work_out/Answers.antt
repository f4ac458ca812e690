use Rattle.std.proofs.Common.{◌<◌, ◌++◌, ◌∙◌, length, sym, ap}
use Rattle.std.specs.Option.{ForSome}
use Rattle.fisca_grid.specs.FormedRow.{formed_line}
use Rattle.fisca_grid.specs.Grid.{axes_at}
use Rattle.fisca_writer.specs.Row.{Line}
use Rattle.fisca_grid.proofs.Formed.{formed_dropped, formed_kept}
use Rattle.fisca_grid.proofs.Groups.{length-axes_at}
use Rattle.fisca_grid.proofs.formed_rows.FormedAxisRowsRows.work_out.Goals as goal

pub returns-then-not-is_kept-clause-worked_out : goal.returns-then-not-is_kept-clause-worked_out
returns-then-not-is_kept-clause-worked_out c =
    let rows = c.args.self.now in
    let axes = axes_at rows.axes c.args.position in
    let inside : ForSome rows.keep (λ filter. filter.axis < length axes) = λ filter e. rw (length-axes_at rows.axes c.args.position) (rows.inside filter e) in
    let found = rw c.if-not-is_kept.true at c.is_kept.ensures in
    formed_dropped rows.form rows.keep axes c.args.position inside found

pub returns-in-Ok-clause-worked_out : goal.returns-in-Ok-clause-worked_out
returns-in-Ok-clause-worked_out c =
    let rows = c.args.self.now in
    let axes = axes_at rows.axes c.args.position in
    let inside : ForSome rows.keep (λ filter. filter.axis < length axes) = λ filter e. rw (length-axes_at rows.axes c.args.position) (rows.inside filter e) in
    let found = rw c.if-not-is_kept.false at c.is_kept.ensures in
    let written = c.in-Ok.ensures.line in
    formed_kept rows.form rows.keep axes written.0 c.args.position written.1 inside found
    ∙ ap Line (sym (written.2 ∙ ap (λ before. before ++ formed_line rows.form c.args.position written.0) c.requires.line))
