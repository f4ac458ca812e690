use Rattle.std.proofs.Common.{◌≡◌, ◌∙◌, false, cond, inl, inr, Err, map, refl, ap, sym, subst, rules}
use Rattle.std.proofs.lemmas.Result.{err_from_is_err_and}
use Rattle.std.specs.Io.KnownBytes.{Keeps}
use Rattle.fisca_rule_files.specs.Listing.{listing}
use Rattle.fisca_rules.specs.Views.{rule_set}
use Rattle.fisca_writer.specs.Steps.Sink.{one_more}
use Rattle.fisca_rule_files.specs.Refusal.{is_write}
use Rattle.fisca_rule_files.specs.declared.refusal.Refusal.TheVariants.{Memory}
use Rattle.fisca_grid_run.specs.Forms.{IsHeaderRefused}
use Rattle.fisca_commands.specs.Listed.{AreListed}
use Rattle.fisca_commands.proofs.Listed.{listed_in}
use Rattle.fisca_commands.proofs.list.list_rules.Goals as goal

pub returns-in_err-rules-clause-answer : goal.returns-in_err-rules-clause-answer
returns-in_err-rules-clause-answer g c =
    let told = err_from_is_err_and c.from_residual.result c.from_residual.ensures.1 in
    let keeps : Keeps (g.S.RowSink.taken c.args.sink.now) (g.S.RowSink.taken c.args.sink.now) = search rules in
    inl (c.in_err-rules.field-0.0, told.1 ∙ ap Err told.2, c.in_err-rules.ensures.err, keeps)

pub returns-in_err-modules-clause-answer : goal.returns-in_err-modules-clause-answer
returns-in_err-modules-clause-answer g c =
    let told = err_from_is_err_and c.from_residual-in_err-modules.result c.from_residual-in_err-modules.ensures.1 in
    let keeps : Keeps (g.S.RowSink.taken c.args.sink.now) (g.S.RowSink.taken c.args.sink.now) = search rules in
    inr (rule_set c.in_ok-rules.rules, c.in_ok-rules.ensures.ok, inl (Memory, told.1 ∙ ap Err told.2, inr (refl, keeps)))

pub returns-in_err-names-clause-answer : goal.returns-in_err-names-clause-answer
returns-in_err-names-clause-answer g c =
    let told = err_from_is_err_and c.from_residual-in_err-names.result c.from_residual-in_err-names.ensures.1 in
    let keeps : Keeps (g.S.RowSink.taken c.args.sink.now) (g.S.RowSink.taken c.args.sink.now) = search rules in
    inr (rule_set c.in_ok-rules.rules, c.in_ok-rules.ensures.ok, inl (Memory, told.1 ∙ ap Err told.2, inr (refl, keeps)))

pub returns-in_err-form-clause-answer : goal.returns-in_err-form-clause-answer
returns-in_err-form-clause-answer g c =
    let told = err_from_is_err_and c.from_residual-in_err-form.result c.from_residual-in_err-form.ensures.1 in
    let refused = subst (λ names. IsHeaderRefused c.args.form names (g.S.RowSink.taken c.args.sink.now) (g.S.RowSink.taken c.begin_table.new.sink) c.in_err-form.field-0.0)
    c.in_ok-names.ensures c.in_err-form.ensures.err in
    inr (rule_set c.in_ok-rules.rules, c.in_ok-rules.ensures.ok, inl (c.in_err-form.field-0.0, told.1 ∙ ap Err told.2, refused))

pub returns-in_err-modules-clause-failures : goal.returns-in_err-modules-clause-failures
returns-in_err-modules-clause-failures g c =
    let told = err_from_is_err_and c.from_residual-in_err-modules.result c.from_residual-in_err-modules.ensures.1 in
    let unwritten : is_write c.from_residual-in_err-modules.result ≡ false = ap is_write (told.1 ∙ ap Err told.2) in
    ap (λ failed. cond failed (one_more (g.S.RowSink.failures c.args.sink.now)) (g.S.RowSink.failures c.args.sink.now)) (sym unwritten)

pub returns-in_err-names-clause-failures : goal.returns-in_err-names-clause-failures
returns-in_err-names-clause-failures g c =
    let told = err_from_is_err_and c.from_residual-in_err-names.result c.from_residual-in_err-names.ensures.1 in
    let unwritten : is_write c.from_residual-in_err-names.result ≡ false = ap is_write (told.1 ∙ ap Err told.2) in
    ap (λ failed. cond failed (one_more (g.S.RowSink.failures c.args.sink.now)) (g.S.RowSink.failures c.args.sink.now)) (sym unwritten)

pub returns-in_err-form-clause-failures : goal.returns-in_err-form-clause-failures
returns-in_err-form-clause-failures g c =
    let told = err_from_is_err_and c.from_residual-in_err-form.result c.from_residual-in_err-form.ensures.1 in
    let same : is_write c.from_residual-in_err-form.result ≡ is_write c.begin_table.result = ap is_write (told.1 ∙ ap Err told.2) ∙ sym (ap is_write c.in_err-form.was) in
    c.begin_table.ensures.failures ∙ ap (λ failed. cond failed (one_more (g.S.RowSink.failures c.args.sink.now)) (g.S.RowSink.failures c.args.sink.now)) (sym same)

pub returns-clause-answer : goal.returns-clause-answer
returns-clause-answer g c =
    let r = rule_set c.in_ok-rules.rules in
    let old = g.S.RowSink.taken c.args.sink.now in
    let between = g.S.RowSink.taken c.begin_table.new.sink in
    let new = g.S.RowSink.taken c.write_variables.new.sink in
    let told = subst (λ ms. AreListed (listing c.in_ok-form.form (map (λ f. f.now) ms) r) between new c.write_variables.result) c.as_slice.ensures.value c.write_variables.ensures.answer in
    inr (
      r,
      c.in_ok-rules.ensures.ok,
      listed_in _ r c.args.form c.in_ok-form.form _ old between new c.write_variables.result c.in_ok-names.ensures c.in_ok-form.ensures.ok
          (subst (λ ms. AreListed (listing c.in_ok-form.form ms r) between new c.write_variables.result) c.in_ok-modules.ensures told),
    )
