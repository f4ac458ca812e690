use Rattle.std.proofs.Common.{◌≡◌, ◌∙◌, false, cond, inl, inr, Err, map, option_map, refl, ap, sym, string_bytes, ⊎_elim, rules}
use Rattle.std.proofs.lemmas.Result.{err_from_is_err_and}
use Rattle.std.specs.Io.KnownBytes.{Keeps}
use Rattle.fisca_columns.specs.Steps.Calc.{default_in}
use Rattle.fisca_columns.specs.Views.{calc}
use Rattle.fisca_writer.specs.Steps.Sink.{one_more}
use Rattle.fisca_yaml.specs.Views.{node}
use Rattle.fisca_commands.specs.Calc.{Calculation}
use Rattle.fisca_rule_files.specs.Refusal.{is_failed_write, is_write}
use Rattle.fisca_commands.proofs.ExplainedBy.{explained_by, unnamed}
use Rattle.fisca_commands.proofs.explain.explain_named.Goals as goal

pub returns-in_err-named-clause-answer : goal.returns-in_err-named-clause-answer
returns-in_err-named-clause-answer g c =
    let asked : Calculation = record { rules = c.args.from.rules.now; asked = calc c.args.file } in
    let told = err_from_is_err_and c.from_residual.result c.from_residual.ensures.1 in
    let keeps : Keeps (g.S.RowSink.taken c.args.sink.now) (g.S.RowSink.taken c.args.sink.now) = search rules in
    let words = map (λ word. string_bytes word) c.args.options.now.columns.now in
    ⊎_elim
    (λ want. inl (told.1 ∙ ap Err (told.2 ∙ want), keeps))
    (λ bad.
    inr (unnamed asked (default_in (node c.args.tree.now)) c.default_in-default.result words c.args.options.now.depth c.args.options.now.format (g.S.RowSink.taken c.args.sink.now) (g.S.RowSink.taken c.args.sink.now) c.from_residual.result c.default_in-default.ensures bad.1 (told.1 ∙ ap Err (told.2 ∙ bad.0)) keeps))
    c.in_err-named.ensures.err

pub returns-in_err-form-clause-answer : goal.returns-in_err-form-clause-answer
returns-in_err-form-clause-answer g c =
    let told = err_from_is_err_and c.from_residual-in_err-form.result c.from_residual-in_err-form.ensures.1 in
    let keeps : Keeps (g.S.RowSink.taken c.args.sink.now) (g.S.RowSink.taken c.args.sink.now) = search rules in
    inl (told.1 ∙ ap Err (told.2 ∙ c.in_err-form.ensures.err), keeps)

pub returns-in_err-named-clause-failures : goal.returns-in_err-named-clause-failures
returns-in_err-named-clause-failures g c =
    let told = err_from_is_err_and c.from_residual.result c.from_residual.ensures.1 in
    let unwritten : is_write c.from_residual.result ≡ false = ap is_write (told.1 ∙ ap Err told.2) ∙ ⊎_elim (λ want. ap is_failed_write want) (λ bad. ap is_failed_write bad.0) c.in_err-named.ensures.err in
    ap (λ failed. cond failed (one_more (g.S.RowSink.failures c.args.sink.now)) (g.S.RowSink.failures c.args.sink.now)) (sym unwritten)

pub returns-in_err-form-clause-failures : goal.returns-in_err-form-clause-failures
returns-in_err-form-clause-failures g c =
    let told = err_from_is_err_and c.from_residual-in_err-form.result c.from_residual-in_err-form.ensures.1 in
    let unwritten : is_write c.from_residual-in_err-form.result ≡ false = ap is_write (told.1 ∙ ap Err told.2) ∙ ap is_failed_write c.in_err-form.ensures.err in
    ap (λ failed. cond failed (one_more (g.S.RowSink.failures c.args.sink.now)) (g.S.RowSink.failures c.args.sink.now)) (sym unwritten)

pub returns-clause-answer : goal.returns-clause-answer
returns-clause-answer g c =
    let asked : Calculation = record { rules = c.args.from.rules.now; asked = calc c.args.file } in
    let words = map (λ word. string_bytes word) c.args.options.now.columns.now in
    inr (explained_by asked (default_in (node c.args.tree.now)) c.default_in-default.result words c.in_ok-named.named.items c.as_slice.result.now c.args.options.now.depth c.args.options.now.format (option_map (λ form. form.now) c.as_ref-form.result)
    (g.S.RowSink.taken c.args.sink.now) (g.S.RowSink.taken c.explain_file.new.sink) c.explain_file.result c.default_in-default.ensures c.in_ok-named.ensures.ok
    c.as_slice.ensures.value (c.as_ref-form.ensures.value ∙ c.in_ok-form.ensures.ok) c.explain_file.ensures.answer)
