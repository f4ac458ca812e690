use Rattle.std.proofs.Common.{◌≡◌, ◌∙◌, false, cond, inl, inr, Err, refl, ap, sym, subst, rules}
use Rattle.std.proofs.lemmas.Result.{err_from_is_err_and}
use Rattle.std.specs.Io.KnownBytes.{Keeps}
use Rattle.fisca_columns.specs.Views.{calc}
use Rattle.fisca_writer.specs.Steps.Sink.{one_more}
use Rattle.fisca_commands.specs.Calc.{Calculation}
use Rattle.fisca_grid_run.specs.Forms.{IsHeaderRefused}
use Rattle.fisca_rule_files.specs.Refusal.{is_write}
use Rattle.fisca_rule_files.specs.declared.refusal.Refusal.TheVariants.{Memory}
use Rattle.fisca_commands.proofs.Calculated.{ready}
use Rattle.fisca_commands.proofs.Ranged.{calculated_in}
use Rattle.fisca_commands.proofs.Telling.{text_unwritten}
use Rattle.fisca_commands.proofs.calc.calc_rules.Goals as goal

pub returns-in_err-rules-clause-answer : goal.returns-in_err-rules-clause-answer
returns-in_err-rules-clause-answer g c =
    let told = err_from_is_err_and c.from_residual.result c.from_residual.ensures.1 in
    let keeps : Keeps (g.S.RowSink.taken c.args.sink.now) (g.S.RowSink.taken c.args.sink.now) = search rules in
    inl (c.in_err-rules.field-0.0, told.1 ∙ ap Err told.2, inl c.in_err-rules.ensures.err, keeps)

pub returns-in_err-file-clause-answer : goal.returns-in_err-file-clause-answer
returns-in_err-file-clause-answer g c =
    let told = err_from_is_err_and c.from_residual-in_err-file.result c.from_residual-in_err-file.ensures.1 in
    let keeps : Keeps (g.S.RowSink.taken c.args.sink.now) (g.S.RowSink.taken c.args.sink.now) = search rules in
    inl (c.in_err-file.field-0.0, told.1 ∙ ap Err told.2, inr (c.in_ok-rules.rules, c.in_ok-rules.ensures.ok, c.in_err-file.ensures.err), keeps)

pub returns-in_err-file-clause-failures : goal.returns-in_err-file-clause-failures
returns-in_err-file-clause-failures g c =
    let told = err_from_is_err_and c.from_residual-in_err-file.result c.from_residual-in_err-file.ensures.1 in
    let unwritten : is_write c.from_residual-in_err-file.result ≡ false = ap is_write (told.1 ∙ ap Err told.2) ∙ text_unwritten c.in_ok-rules.rules c.args.text.now c.in_err-file.field-0.0 c.in_err-file.ensures.err in
    ap (λ failed. cond failed (one_more (g.S.RowSink.failures c.args.sink.now)) (g.S.RowSink.failures c.args.sink.now)) (sym unwritten)

pub write_values-requires : goal.write_values-requires
write_values-requires g c =
    let asked : Calculation = record { rules = c.in_ok-rules.rules; asked = calc c.in_ok-file.file } in
    ready c.args.files.now c.args.text.now asked c.rule_sets_are_safe.ensures c.calc_inputs_fit.ensures c.in_ok-rules.ensures.ok c.in_ok-file.ensures.ok

pub returns-in_err-names-clause-answer : goal.returns-in_err-names-clause-answer
returns-in_err-names-clause-answer g c =
    let asked : Calculation = record { rules = c.in_ok-rules.rules; asked = calc c.in_ok-file.file } in
    let told = err_from_is_err_and c.from_residual-in_err-names.result c.from_residual-in_err-names.ensures.1 in
    let keeps : Keeps (g.S.RowSink.taken c.args.sink.now) (g.S.RowSink.taken c.args.sink.now) = search rules in
    inr (asked, (c.in_ok-rules.ensures.ok, c.in_ok-file.ensures.ok), inl (Memory, told.1 ∙ ap Err told.2, inr (refl, keeps)))

pub returns-in_err-form-clause-answer : goal.returns-in_err-form-clause-answer
returns-in_err-form-clause-answer g c =
    let asked : Calculation = record { rules = c.in_ok-rules.rules; asked = calc c.in_ok-file.file } in
    let told = err_from_is_err_and c.from_residual-in_err-form.result c.from_residual-in_err-form.ensures.1 in
    let refused = subst (λ names. IsHeaderRefused c.args.form names (g.S.RowSink.taken c.args.sink.now) (g.S.RowSink.taken c.begin_table.new.sink) c.in_err-form.field-0.0)
    c.in_ok-names.ensures c.in_err-form.ensures.err in
    inr (asked, (c.in_ok-rules.ensures.ok, c.in_ok-file.ensures.ok), inl (c.in_err-form.field-0.0, told.1 ∙ ap Err told.2, refused))

pub returns-in_err-names-clause-failures : goal.returns-in_err-names-clause-failures
returns-in_err-names-clause-failures g c =
    let told = err_from_is_err_and c.from_residual-in_err-names.result c.from_residual-in_err-names.ensures.1 in
    let unwritten : is_write c.from_residual-in_err-names.result ≡ false = ap is_write (told.1 ∙ ap Err told.2) in
    ap (λ failed. cond failed (one_more (g.S.RowSink.failures c.args.sink.now)) (g.S.RowSink.failures c.args.sink.now)) (sym unwritten)

pub returns-in_err-form-clause-failures : goal.returns-in_err-form-clause-failures
returns-in_err-form-clause-failures g c =
    let told = err_from_is_err_and c.from_residual-in_err-form.result c.from_residual-in_err-form.ensures.1 in
    let same : is_write c.from_residual-in_err-form.result ≡ is_write c.begin_table.result = ap is_write (told.1 ∙ ap Err told.2) ∙ sym (ap is_write c.in_err-form.was) in
    c.begin_table.ensures.failures ∙ ap (λ failed. cond failed (one_more (g.S.RowSink.failures c.args.sink.now)) (g.S.RowSink.failures c.args.sink.now)) (sym same)

pub returns-clause-answer : goal.returns-clause-answer
returns-clause-answer g c =
    let asked : Calculation = record { rules = c.in_ok-rules.rules; asked = calc c.in_ok-file.file } in
    inr (
      asked,
      (c.in_ok-rules.ensures.ok, c.in_ok-file.ensures.ok),
      calculated_in asked c.args.form c.in_ok-form.form _ _ _ _ _ c.in_ok-names.ensures c.in_ok-form.ensures.ok c.write_values.ensures.answer,
    )
