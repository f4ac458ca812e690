use Rattle.std.proofs.Common.{◌≡◌, ◌∙◌, false, cond, inl, inr, Err, refl, ap, sym, ⊎_elim, rules}
use Rattle.std.proofs.lemmas.Result.{err_from_is_err_and}
use Rattle.std.specs.Io.KnownBytes.{Keeps}
use Rattle.fisca_writer.specs.Steps.Sink.{one_more}
use Rattle.fisca_rule_files.specs.Refusal.{is_write}
use Rattle.fisca_rule_files.specs.declared.refusal.Refusal.TheVariants.{Memory}
use Rattle.fisca_commands.proofs.explain.explain_rules.Goals as goal

pub returns-in_err-rules-clause-answer : goal.returns-in_err-rules-clause-answer
returns-in_err-rules-clause-answer g c =
    let told = err_from_is_err_and c.from_residual.result c.from_residual.ensures.1 in
    let keeps : Keeps (g.S.RowSink.taken c.args.sink.now) (g.S.RowSink.taken c.args.sink.now) = search rules in
    inl (c.in_err-rules.field-0.0, told.1 ∙ ap Err told.2, inl c.in_err-rules.ensures.err, keeps)

pub returns-in_err-modules-clause-answer : goal.returns-in_err-modules-clause-answer
returns-in_err-modules-clause-answer g c =
    let told = err_from_is_err_and c.from_residual-in_err-modules.result c.from_residual-in_err-modules.ensures.1 in
    let keeps : Keeps (g.S.RowSink.taken c.args.sink.now) (g.S.RowSink.taken c.args.sink.now) = search rules in
    inl (Memory, told.1 ∙ ap Err told.2, inr (c.in_ok-rules.rules, c.in_ok-rules.ensures.ok, inl (inl refl)), keeps)

pub returns-in_err-modules-clause-failures : goal.returns-in_err-modules-clause-failures
returns-in_err-modules-clause-failures g c =
    let told = err_from_is_err_and c.from_residual-in_err-modules.result c.from_residual-in_err-modules.ensures.1 in
    let unwritten : is_write c.from_residual-in_err-modules.result ≡ false = ap is_write (told.1 ∙ ap Err told.2) in
    ap (λ failed. cond failed (one_more (g.S.RowSink.failures c.args.sink.now)) (g.S.RowSink.failures c.args.sink.now)) (sym unwritten)

pub returns-clause-answer : goal.returns-clause-answer
returns-clause-answer g c =
    ⊎_elim
    (λ refused. inl (refused.0, refused.1, inr (c.in_ok-rules.rules, c.in_ok-rules.ensures.ok, refused.2), refused.3))
    (λ told. inr (record { rules = c.in_ok-rules.rules; asked = told.0 }, told.1, (c.in_ok-rules.ensures.ok, told.2), told.3, told.4))
    c.explain_text.ensures.answer

pub explain_text-requires : goal.explain_text-requires
explain_text-requires g c = c.in_ok-rules.ensures.ok

pub returns-clause-failures : goal.returns-clause-failures
returns-clause-failures g c = c.explain_text.ensures.failures
