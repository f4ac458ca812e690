use Rattle.std.proofs.Common.{◌∙◌, [], inl, inr, map, string_bytes, Err, refl, ap, rules}
use Rattle.std.proofs.lemmas.Result.{err_from_is_err_and}
use Rattle.std.specs.Io.KnownBytes.{Keeps}
use Rattle.fisca_run_file.specs.Views.{run_start}
use Rattle.fisca_grid_run.specs.Ends.{end_of}
use Rattle.fisca_grid_run.specs.Run.{AreLinesTold, Running}
use Rattle.fisca_grid_run.specs.Runs.{positions}
use Rattle.fisca_grid_run.proofs.Ranged.{beyond_at, ended_in, lines_named, lines_told}
use Rattle.fisca_grid_run.proofs.run.write_range.Goals as goal

pub returns-then-not-is_inside-clause-answer : goal.returns-then-not-is_inside-clause-answer
returns-then-not-is_inside-clause-answer g c =
    let keeps : Keeps (g.S.RowSink.taken c.args.sink.now) (g.S.RowSink.taken c.args.sink.now) = search rules in
    inl (
      beyond_at c.size-size.result (positions (run_start c.args.begun)) c.start-from.result c.args.options.now c.limit-limit.result c.size-size.ensures c.start-from.ensures c.limit-limit.ensures
          (λ inside. let yes = c.is_inside.ensures.1 inside in let no = c.if-not-is_inside.true in cc),
      refl,
      keeps,
    )

pub returns-in_err-form-clause-answer : goal.returns-in_err-form-clause-answer
returns-in_err-form-clause-answer g c =
    let told = err_from_is_err_and c.from_residual.result c.from_residual.ensures.1 in
    inr (inl (c.in_err-form.field-0.0, ap end_of (told.1 ∙ ap Err told.2), c.in_err-form.ensures.err))

pub returns-clause-answer : goal.returns-clause-answer
returns-clause-answer g c =
    let running : Running = record { rules = c.args.rules.now; run = run_start c.args.begun; names = map (λ name. string_bytes name) c.args.names.items } in
    inr (inr (
      c.style_of-style.result,
      lines_told running c.args.options.now c.in_ok-form.form c.style_of-style.result c.size-size.result c.start-from.result c.limit-limit.result _ _ _ _
          c.size-size.ensures c.start-from.ensures c.limit-limit.ensures c.in_ok-form.ensures.ok c.style_of-style.ensures
          (lines_named c.args.rules.now (run_start c.args.begun) [] running.names c.style_of-style.result c.start-from.result c.limit-limit.result _ _ _ c.write_run.ensures.answer),
    ))

pub returns-clause-ended : goal.returns-clause-ended
returns-clause-ended g c =
    let running : Running = record { rules = c.args.rules.now; run = run_start c.args.begun; names = map (λ name. string_bytes name) c.args.names.items } in
    let style = c.style_of-style.result in
    let old = g.S.RowSink.taken c.args.sink.now in
    let new = g.S.RowSink.taken c.write_run.new.sink in
    let told : AreLinesTold running c.args.options.now style old new (end_of c.write_run.result) =
    lines_told running c.args.options.now c.in_ok-form.form style c.size-size.result c.start-from.result c.limit-limit.result _ _ _ _
    c.size-size.ensures c.start-from.ensures c.limit-limit.ensures c.in_ok-form.ensures.ok c.style_of-style.ensures
    (lines_named c.args.rules.now (run_start c.args.begun) [] running.names style c.start-from.result c.limit-limit.result _ _ _ c.write_run.ensures.answer) in
    ended_in running c.args.options.now style c.size-size.result c.start-from.result old new c.args.lacks.now c.write_run.new.lacks c.write_run.result
    c.size-size.ensures c.start-from.ensures told c.write_run.ensures.lacks c.write_run.ensures.counts
