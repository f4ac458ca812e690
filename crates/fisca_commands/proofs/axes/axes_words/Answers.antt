use Rattle.std.proofs.Common.{◌∙◌, inl, inr, map, option_map, string_bytes, Err, refl, ap, rules}
use Rattle.std.proofs.lemmas.Result.{err_from_is_err_and}
use Rattle.std.specs.Io.KnownBytes.{Keeps}
use Rattle.fisca_grid.specs.Grid.{size_of}
use Rattle.fisca_rule_files.specs.declared.refusal.Refusal.TheVariants.{Memory}
use Rattle.fisca_commands.proofs.Ranged.{axes_answered, axes_told, header_refused}
use Rattle.fisca_grid_run.proofs.Ranged.{beyond_at}
use Rattle.fisca_commands.specs.AxesRun.{FilteredAxes}
use Rattle.fisca_commands.proofs.axes.axes_words.Goals as goal

pub returns-then-not-is_inside-clause-answer : goal.returns-then-not-is_inside-clause-answer
returns-then-not-is_inside-clause-answer g c =
    let words = map (λ word. string_bytes word) c.args.words.now in
    let keep = option_map (λ text. text.now) c.args.keep in
    let r = c.in_ok-axis_rows.axis_rows in
    let run : FilteredAxes = record { axes = r.axes; keep = r.keep } in
    let keeps : Keeps (g.S.RowSink.taken c.args.sink.now) (g.S.RowSink.taken c.args.sink.now) = search rules in
    axes_answered words keep c.args.options.now _ _ _ run c.in_ok-axis_rows.ensures.ok (inl (
      beyond_at c.size-size.result (size_of r.axes) c.start-from.result c.args.options.now c.limit-limit.result c.size-size.ensures c.start-from.ensures c.limit-limit.ensures
          (λ inside. let yes = c.is_inside.ensures.1 inside in let no = c.if-not-is_inside.true in cc),
      refl,
      keeps,
    ))

pub returns-in_err-names-clause-answer : goal.returns-in_err-names-clause-answer
returns-in_err-names-clause-answer g c =
    let words = map (λ word. string_bytes word) c.args.words.now in
    let keep = option_map (λ text. text.now) c.args.keep in
    let r = c.in_ok-axis_rows.axis_rows in
    let run : FilteredAxes = record { axes = r.axes; keep = r.keep } in
    let told = err_from_is_err_and c.from_residual-in_err-names.result c.from_residual-in_err-names.ensures.1 in
    let keeps : Keeps (g.S.RowSink.taken c.args.sink.now) (g.S.RowSink.taken c.args.sink.now) = search rules in
    axes_answered words keep c.args.options.now _ _ _ run c.in_ok-axis_rows.ensures.ok (inr (inl (Memory, told.1 ∙ ap Err told.2, inr (refl, keeps))))

pub returns-in_err-form-clause-answer : goal.returns-in_err-form-clause-answer
returns-in_err-form-clause-answer g c =
    let words = map (λ word. string_bytes word) c.args.words.now in
    let keep = option_map (λ text. text.now) c.args.keep in
    let r = c.in_ok-axis_rows.axis_rows in
    let run : FilteredAxes = record { axes = r.axes; keep = r.keep } in
    let told = err_from_is_err_and c.from_residual-in_err-form.result c.from_residual-in_err-form.ensures.1 in
    axes_answered words keep c.args.options.now _ _ _ run c.in_ok-axis_rows.ensures.ok (inr (inl (
      c.in_err-form.field-0.0,
      told.1 ∙ ap Err told.2,
      header_refused c.args.options.now.form words _ _ _ c.in_err-form.field-0.0 c.in_ok-names.ensures c.in_err-form.ensures.err,
    )))

pub returns-clause-answer : goal.returns-clause-answer
returns-clause-answer g c =
    let words = map (λ word. string_bytes word) c.args.words.now in
    let keep = option_map (λ text. text.now) c.args.keep in
    let r = c.in_ok-axis_rows.axis_rows in
    let run : FilteredAxes = record { axes = r.axes; keep = r.keep } in
    axes_told words keep c.args.options.now _ _ _ _ run c.in_ok-form.form _ c.size-size.result c.start-from.result c.limit-limit.result c.in_ok-axis_rows.ensures.ok
    c.size-size.ensures c.start-from.ensures c.limit-limit.ensures c.in_ok-names.ensures c.in_ok-form.ensures.ok c.write_axes.ensures.answer
